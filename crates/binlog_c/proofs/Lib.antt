mod WrittenLines
