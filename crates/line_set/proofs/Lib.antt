mod Lengths
mod Seeking
mod WholeSet
mod Emission
mod Turns
mod Ticking
mod OneStep
