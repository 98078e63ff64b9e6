-- 01, The order program: the lines of the answer, byte by byte.
use Rattle.std.specs.Prelude.{ℕ, zero, suc, ◌+◌, ◌-◌, ◌*◌, ◌/◌, ◌%◌, cond, List, [], ◌∷◌, ltb, get_or}

-- digits: 48 is `0`, and 87 + 10 is `a`
abbrev pub decimal : ℕ → ℕ → ℕ
decimal n worth = 48 + n / worth % 10

abbrev pub hexadecimal : ℕ → ℕ
hexadecimal d = cond (ltb d 10) (48 + d) (87 + d)

-- a word of 64 bits with its first k digits shifted out
unfoldable pub shifted : ℕ → ℕ → ℕ
shifted w zero = w
shifted w (suc k) = shifted w k % 0x1000_0000_0000_0000 * 16

-- its digit k, the most significant first
abbrev pub hex_at : ℕ → ℕ → ℕ
hex_at w k = hexadecimal (shifted w k / 0x1000_0000_0000_0000)

-- `B rr nnnn` and the line's end
abbrev pub build_line : ℕ → ℕ → List ℕ
build_line refusal sections =
    66 ∷ 32 ∷ decimal refusal 10 ∷ decimal refusal 1 ∷ 32
    ∷ decimal sections 1000 ∷ decimal sections 100 ∷ decimal sections 10 ∷ decimal sections 1 ∷ 10 ∷ []

abbrev pub build_byte : ℕ → ℕ → ℕ → ℕ
build_byte refusal sections k = get_or (build_line refusal sections) k 0

-- `Q rr v p` and the line's end: five bytes, sixteen, a space, sixteen, and one
abbrev pub query_byte : ℕ → ℕ → ℕ → ℕ → ℕ
query_byte refusal value primitive k =
    cond (ltb k 5) (get_or (81 ∷ 32 ∷ decimal refusal 10 ∷ decimal refusal 1 ∷ 32 ∷ []) k 0)
    (cond (ltb k 21) (hex_at value (k - 5)) (cond (ltb k 22) 32 (cond (ltb k 38) (hex_at primitive (k - 22)) 10)))
