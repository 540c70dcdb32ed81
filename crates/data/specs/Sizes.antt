-- R8.4, R8.5, R8.10, R8.11: what a value needs, the sizes of DC and DS, and refusal 21.
use Rattle.std.specs.Prelude.{ℕ, ◌+◌, ◌*◌, ◌/◌, Bool, ltb, leb}
use Rattle.values.specs.Tests.{pick, both}
use Rattle.data.specs.declared.DataCard.{DataCard}
use Rattle.data.specs.declared.DataCard.TheVariants.{Constant, Reserve}
use Rattle.data.specs.declared.DataType.{DataType}
use Rattle.data.specs.declared.DataType.TheVariants.{Characters, Hexadecimal, Decimal, Address}
use Rattle.data.specs.declared.Data.{Data}

-- R8.8: two hex digits to a byte, and an odd one has a byte of its own
abbrev pub half_up : ℕ → ℕ
half_up n = (n + 1) / 2

-- R8.10: the bytes that a value of so many characters or digits needs; that of an address is never too long
abbrev pub needed : DataType → ℕ → ℕ
needed Characters count = count
needed Hexadecimal count = half_up count
needed Decimal count = count
needed Address count = 0

abbrev pub bytes_needed : Data → ℕ
bytes_needed d = needed d.kind d.count

-- R8.5: the greatest length of each type
abbrev pub longest : DataType → ℕ
longest Characters = 256
longest Hexadecimal = 256
longest Decimal = 256
longest Address = 3

unfoldable pub length_fits : Data → Bool
length_fits d = both (leb 1 d.length) (leb d.length (longest d.kind))

-- R8.14: n times m
unfoldable pub data_size : Data → ℕ
data_size d = d.copies * d.length

-- R8.4, R8.5, R8.10, R8.11: 21 of DC: m out of range, n over 256, a value that needs more than m, n times m over 256
unfoldable pub constant_no : Data → ℕ
constant_no d =
    pick (length_fits d)
    (pick (ltb 256 d.copies) 21 (pick (ltb d.length (bytes_needed d)) 21 (pick (ltb 256 (data_size d)) 21 0)))
    21

-- R8.4, R8.5: 21 of DS: m out of range, or n over 65535
unfoldable pub reserve_no : Data → ℕ
reserve_no d = pick (length_fits d) (pick (ltb 65535 d.copies) 21 0) 21

-- R13.4: 21 of a DC, or of a DS
abbrev pub data_no_by : DataCard → Data → ℕ
data_no_by Constant d = constant_no d
data_no_by Reserve d = reserve_no d

abbrev pub data_no : Data → ℕ
data_no d = data_no_by d.card d
