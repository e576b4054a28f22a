-- Numbers that stand in bytes.
use Rattle.std.specs.Prelude.{ℕ, ◌+◌, ◌*◌, List, get_or}

-- the byte at a place
abbrev pub byte : List ℕ → ℕ → ℕ
byte e i = get_or e i 0

-- "2 bytes, big-endian"
abbrev pub word : List ℕ → ℕ → ℕ
word e i = byte e i * 256 + byte e (i + 1)
