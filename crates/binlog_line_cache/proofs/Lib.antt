mod BoxParts
mod Caches
