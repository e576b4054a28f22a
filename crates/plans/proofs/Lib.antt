mod Answers
mod Filled
mod Turns
mod Pairs
