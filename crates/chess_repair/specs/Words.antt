-- Bytes and words of games as people write them.
--   quiet       a byte as it may be in a comment: no brace, and no bracket
--   number_for  the annotation number for a word of evaluation, as it is written
--   is_said     words for what the move itself says
--   result_of   the marker for a result in another form
--   castling_of  castling for the squares of king and rook
--   sign_of     what is written for a dash, a sign of captures or a figurine of UTF-8 within a word
use Rattle.std.specs.Prelude.{ℕ, Bool, ◌||◌, ◌==◌, if◌then◌else◌, List, [], ◌∷◌, Option, Some, None, codes, bytes_eq}
use Rattle.std.specs.Str.{byte}

unfoldable pub quiet : ℕ → ℕ
quiet b = if b == byte "{" || b == byte "[" then byte "(" else (if b == byte "}" || b == byte "]" then byte ")" else b)

unfoldable pub number_for : List ℕ → Option (List ℕ)
number_for word =
    if bytes_eq word (codes "=") then Some (codes "$10")
    else (if bytes_eq word (codes "~") || bytes_eq word (226 ∷ 136 ∷ 158 ∷ []) then Some (codes "$13")
    else (if bytes_eq word (codes "+=") || bytes_eq word (codes "+/=") || bytes_eq word (226 ∷ 169 ∷ 178 ∷ []) then Some (codes "$14")
    else (if bytes_eq word (codes "=+") || bytes_eq word (codes "=/+") || bytes_eq word (226 ∷ 169 ∷ 177 ∷ []) then Some (codes "$15")
    else (if bytes_eq word (codes "+/-") || bytes_eq word (194 ∷ 177 ∷ []) then Some (codes "$16")
    else (if bytes_eq word (codes "-/+") || bytes_eq word (226 ∷ 136 ∷ 147 ∷ []) then Some (codes "$17")
    else (if bytes_eq word (codes "+-") then Some (codes "$18")
    else (if bytes_eq word (codes "-+") then Some (codes "$19")
    else (if bytes_eq word (codes "N") || bytes_eq word (codes "TN") then Some (codes "$146")
    else (if bytes_eq word (codes "D") then Some (codes "$220") else None)))))))))

unfoldable pub is_said : List ℕ → Bool
is_said word =
    bytes_eq word (codes "ep") || bytes_eq word (codes "e.p.") || bytes_eq word (codes "e.p") || bytes_eq word (codes "ch") || bytes_eq word (codes "dis") || bytes_eq word (codes "dbl") || bytes_eq word (codes "disch")
    || bytes_eq word (codes "dblch") || bytes_eq word (codes "check") || bytes_eq word (codes "mate") || bytes_eq word (codes "+") || bytes_eq word (codes "++") || bytes_eq word (codes "#")

-- with blanks, a colon, halves or decimals
unfoldable pub says_draw : List ℕ → Bool
says_draw word =
    bytes_eq word (codes "1/2") || bytes_eq word (194 ∷ 189 ∷ 45 ∷ 194 ∷ 189 ∷ []) || bytes_eq word (194 ∷ 189 ∷ []) || bytes_eq word (codes "1/2:1/2") || bytes_eq word (codes "0.5-0.5") || bytes_eq word (codes "1/2 - 1/2")
    || bytes_eq word (codes "0.5 - 0.5")

-- with a colon, a letter O, blanks or a dash
unfoldable pub says_win : List ℕ → Bool
says_win word = bytes_eq word (codes "1:0") || bytes_eq word (codes "1-O") || bytes_eq word (codes "1 - 0") || bytes_eq word (49 ∷ 226 ∷ 128 ∷ 147 ∷ 48 ∷ [])

-- the same for Black
unfoldable pub says_loss : List ℕ → Bool
says_loss word = bytes_eq word (codes "0:1") || bytes_eq word (codes "O-1") || bytes_eq word (codes "0 - 1") || bytes_eq word (48 ∷ 226 ∷ 128 ∷ 147 ∷ 49 ∷ [])

unfoldable pub result_of : List ℕ → Option (List ℕ)
result_of word = if says_draw word then Some (codes "1/2-1/2") else (if says_win word then Some (codes "1-0") else (if says_loss word then Some (codes "0-1") else None))

unfoldable pub castling_of : List ℕ → Option (List ℕ)
castling_of word =
    if bytes_eq word (codes "e1h1") || bytes_eq word (codes "e8h8") then Some (codes "O-O")
    else (if bytes_eq word (codes "e1a1") || bytes_eq word (codes "e8a8") then Some (codes "O-O-O") else None)

-- dashes of UTF-8, from the hyphen to the horizontal bar, and the sign of minus
unfoldable pub is_dash : List ℕ → Bool
is_dash word =
    bytes_eq word (226 ∷ 128 ∷ 144 ∷ []) || bytes_eq word (226 ∷ 128 ∷ 145 ∷ []) || bytes_eq word (226 ∷ 128 ∷ 146 ∷ []) || bytes_eq word (226 ∷ 128 ∷ 147 ∷ []) || bytes_eq word (226 ∷ 128 ∷ 148 ∷ [])
    || bytes_eq word (226 ∷ 128 ∷ 149 ∷ []) || bytes_eq word (226 ∷ 136 ∷ 146 ∷ [])

-- a figurine of UTF-8, white or black, with the last byte
unfoldable pub is_figurine : ℕ → ℕ → List ℕ → Bool
is_figurine white black word = bytes_eq word (226 ∷ 153 ∷ white ∷ []) || bytes_eq word (226 ∷ 153 ∷ black ∷ [])

-- a pawn has no letter
unfoldable pub sign_of : List ℕ → Option (List ℕ)
sign_of word =
    if is_dash word || is_figurine 153 159 word then Some []
    else (if bytes_eq word (195 ∷ 151 ∷ []) then Some (codes "x")
    else (if is_figurine 148 154 word then Some (codes "K")
    else (if is_figurine 149 155 word then Some (codes "Q")
    else (if is_figurine 150 156 word then Some (codes "R") else (if is_figurine 151 157 word then Some (codes "B") else (if is_figurine 152 158 word then Some (codes "N") else None))))))
