-- Laws that the proofs of the functions use.
mod Counting
mod Digits
mod Texts
