-- The texts of shows and dumps.
use Rattle.std.specs.Prelude.{if◌then◌else◌, ◌%◌, ◌*◌, ◌++◌, ◌-◌, ◌/◌, ◌==◌, ◌∷◌}
use Rattle.std.specs.Prelude.{List, [], codes, false, length, min, slice_index, suc, zero, ℕ}
use Rattle.std.specs.Int.{div_ceil}
use Rattle.std.specs.List.{flat_map, range_with_len}
use Rattle.std.specs.Fmt.{decimal, digit_glyph}
use Rattle.tag_pool.specs.declared.shown.Shown.{Shown}

-- some text, followed by a number in decimal
abbrev pub field : List ℕ → ℕ → List ℕ
field words number = words ++ decimal number

-- the five lines of a show
abbrev pub shown_text : Shown → List ℕ
shown_text s =
    field (codes "depth=") s.depth ++ field (codes "\nbusy=") s.busy ++ field (codes "\ncleared=") s.cleared
    ++ field (codes "\nbits_per_word=") s.bits_per_word ++ field (codes "\nmap_nr=") s.map_nr ++ codes "\n"

-- the last `width` hexadecimal digits of a number, in lower case
abbrev pub hex_digits : ℕ → ℕ → List ℕ
hex_digits zero n = []
hex_digits (suc width) n = hex_digits width (n / 16) ++ digit_glyph false (n % 16) ∷ []

-- a byte of a dump: two digits, with a space before them if its offset is even
abbrev pub byte_text : List ℕ → ℕ → List ℕ
byte_text bytes offset = (if offset % 2 == 0 then codes " " else []) ++ hex_digits 2 (slice_index bytes offset)

-- a line of a dump: the offset at which it starts, a colon, and the next sixteen bytes, or as many as are left
abbrev pub line_text : List ℕ → ℕ → List ℕ
line_text bytes start = hex_digits 8 start ++ codes ":"
    ++ flat_map (byte_text bytes) (range_with_len start (min 16 (length bytes - start))) ++ codes "\n"

-- the text of a dump: a line for every sixteen bytes, and one for the bytes after them
abbrev pub dump_text : List ℕ → List ℕ
dump_text bytes = flat_map (λ line. line_text bytes (16 * line)) (range_with_len 0 (div_ceil (length bytes) 16))
