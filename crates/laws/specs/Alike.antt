-- Bytes that differ in one part alone.
use Rattle.std.specs.Prelude.{ℕ, ◌+◌, List, ◌≡◌, length, take, drop}

-- two strings of bytes, alike but for n bytes from a place on
pub record AlikeBut (at n : ℕ) (e e' : List ℕ) : Type 0 where
  pub long : length e ≡ length e'
  pub front : take at e ≡ take at e'
  pub back : drop (at + n) e ≡ drop (at + n) e'
