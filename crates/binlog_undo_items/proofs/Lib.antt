mod Counts
mod Failures
mod FirstLogs
mod LogsWritten
mod Refused
mod Scans
mod TableNames
mod UndoneLogs
