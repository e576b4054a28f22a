-- What is said on standard error where a call of the system failed: what cannot be done, and the system's number of the error.
use Rattle.std.specs.Prelude.{ℕ, List, [], ◌∷◌, ◌++◌, ℤ, pos, negsuc, Option, None, Some}
use Rattle.std.specs.IoError.{raw_os_error}
use Rattle.std.specs.declared.io.Error.{Error}
use Rattle.text.specs.Ascii.{ascii}
use Rattle.text.specs.Decimal.{decimal}
use Rattle.streams.specs.declared.failure.Failure.{Failure}
use Rattle.streams.specs.declared.failure.Failure.TheVariants.{Unreadable, Unwritable}

-- no error has a number below 0
abbrev pub error_number : ℤ → ℕ
error_number (pos n) = n
error_number (negsuc n) = 0

-- and one of std's own has none
abbrev pub number_or_0 : Option ℤ → ℕ
number_or_0 None = 0
number_or_0 (Some n) = error_number n

unfoldable pub failure_line : List ℕ → ℕ → List ℕ
failure_line what error = what ++ (ascii ": error " ++ (decimal error ++ (10 ∷ [])))

abbrev pub error_line : List ℕ → Error → List ℕ
error_line what e = failure_line what (number_or_0 (raw_os_error e))

abbrev pub cause : Failure → Error
cause (Unreadable e) = e
cause (Unwritable e) = e

abbrev pub message : Failure → List ℕ
message (Unreadable e) = error_line (ascii "standard input cannot be read") e
message (Unwritable e) = error_line (ascii "standard output cannot be written") e
