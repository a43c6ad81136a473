mod Inverses
