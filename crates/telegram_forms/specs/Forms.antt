-- Arrays that hold a telegram.
use Rattle.std.specs.Prelude.{ℕ, List, replicate}
use Rattle.std.proofs.lemmas.List.Edits.{sets}

-- bytes at the front of an array of zeros that has room for any telegram
unfoldable pub padded : List ℕ → List ℕ
padded bs = sets (replicate 46 0) 0 bs
