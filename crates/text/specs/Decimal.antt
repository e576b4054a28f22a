-- Numbers and lines as text, in ASCII: "decimal, one space between".
use Rattle.std.specs.Prelude.{ℕ, zero, suc, ◌+◌, ◌/◌, ◌%◌, List, [], ◌∷◌, ◌++◌, cond, ltb, ℤ, pos, negsuc}

-- the last k digits at most: those before the last one, as long as there are any, and the last one
unfoldable pub spelled : ℕ → ℕ → List ℕ
spelled zero n = []
spelled (suc k) n = cond (ltb n 10) [] (spelled k (n / 10)) ++ ((48 + n % 10) ∷ [])

-- no number has more digits than n + 1
unfoldable pub decimal : ℕ → List ℕ
decimal n = spelled (suc n) n

-- a minus sign in front of what is below zero
unfoldable pub signed : ℤ → List ℕ
signed (pos n) = decimal n
signed (negsuc n) = 45 ∷ decimal (suc n)

-- a line: words with one space between, and the line's end
abbrev pub line : List ℕ → List (List ℕ) → List ℕ
line w [] = w ++ (10 ∷ [])
line w (v ∷ vs) = w ++ (32 ∷ line v vs)
