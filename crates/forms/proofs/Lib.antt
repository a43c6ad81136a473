mod Expression
mod Operators
