-- Big-endian numbers in a list of bytes, and runs of its bytes.
use Rattle.std.specs.Prelude.{ℕ, ◌+◌, ◌*◌, ◌/◌, ◌%◌, List, [], ◌∷◌, ◌++◌, get_or, take, drop}

-- the number of the two bytes at a place, the higher first
unfoldable pub word : List ℕ → ℕ → ℕ
word s at = get_or s at 0 * 256 + get_or s (at + 1) 0

-- the number of the four bytes at a place
unfoldable pub long : List ℕ → ℕ → ℕ
long s at = word s at * 65536 + word s (at + 2)

-- the number of a list of bytes in base 256, the highest first, behind a number that was read before them
abbrev pub base256_on : ℕ → List ℕ → ℕ
base256_on n [] = n
base256_on n (b ∷ bs) = base256_on (n * 256 + b) bs

abbrev pub base256 : List ℕ → ℕ
base256 [] = 0
base256 (b ∷ bs) = base256_on b bs

-- a number as two bytes, the higher first
abbrev pub two_bytes : ℕ → List ℕ
two_bytes n = n / 256 % 256 ∷ n % 256 ∷ []

-- a number as four bytes
abbrev pub four_bytes : ℕ → List ℕ
four_bytes n = two_bytes (n / 65536) ++ two_bytes (n % 65536)

-- n bytes from a place on
abbrev pub part : List ℕ → ℕ → ℕ → List ℕ
part s from n = take n (drop from s)
