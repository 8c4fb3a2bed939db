-- Bodies (II.25.4). Branches are short, so places count modulo 256.
use Rattle.std.specs.Prelude.{ℕ, ◌+◌, ◌-◌, ◌%◌, List, [], ◌∷◌, ◌++◌, length, Bool, true, false, nat_lt, ◌&&◌, if◌then◌else◌}
use Rattle.std.specs.Str.{bytes_eq}
use Rattle.base_tables.specs.Shape.{Item, Line}
use Rattle.base_tables.specs.declared.shape.Form.{Form}
use Rattle.base_tables.specs.declared.shape.Form.TheVariants.{At, Do, Small, Jump, Name}
use Rattle.cil_layout.specs.Layout.{two, four}
use Rattle.base_lib.specs.Keys.{token_of_key}

-- an opcode is a byte, or FE and a byte
abbrev pub op_bytes : ℕ → List ℕ
op_bytes op = if nat_lt op 256 then op ∷ [] else 0xFE ∷ (op % 256) ∷ []

-- the bytes of a line, of those of its opcode
abbrev pub form_length : Form → ℕ → ℕ
form_length At op = 0
form_length Do op = op
form_length Small op = op + 1
form_length Jump op = op + 1
form_length Name op = op + 4

abbrev pub line_length : Line → ℕ
line_length line = form_length line.form (length (op_bytes line.op))

abbrev pub is_at : Form → Bool
is_at At = true
is_at _ = false

abbrev pub is_label : List ℕ → Line → Bool
is_label label line = is_at line.form && bytes_eq line.text label

-- the place of a label, and 0 where it isn't
unfoldable pub label_from : ℕ → List Line → List ℕ → ℕ
label_from at [] label = 0
label_from at (line ∷ lines) label = if is_label label line then at else label_from ((at + line_length line) % 256) lines label

-- from the end of the branch to its target
abbrev pub distance : ℕ → ℕ → ℕ
distance end target = (target + (256 - end)) % 256

-- a line that begins at a place, among all lines of its body
abbrev pub form_bytes : List Item → List Line → ℕ → Form → Line → List ℕ
form_bytes items all at At line = []
form_bytes items all at Do line = op_bytes line.op
form_bytes items all at Small line = op_bytes line.op ++ line.number ∷ []
form_bytes items all at Jump line = op_bytes line.op ++ distance ((at + line_length line) % 256) (label_from 0 all line.text) ∷ []
form_bytes items all at Name line = op_bytes line.op ++ four (token_of_key items line.text)

abbrev pub line_bytes : List Item → List Line → ℕ → Line → List ℕ
line_bytes items all at line = form_bytes items all at line.form line

unfoldable pub code_from : List Item → List Line → ℕ → List Line → List ℕ
code_from items all at [] = []
code_from items all at (line ∷ lines) = line_bytes items all at line ++ code_from items all ((at + line_length line) % 256) lines

-- a fat header, with zeroed locals
unfoldable pub body_bytes : List Item → ℕ → ℕ → List Line → List ℕ
body_bytes items max_stack locals lines =
    let code : List ℕ = code_from items lines 0 lines in
    0x13 ∷ 0x30 ∷ two max_stack ++ four (length code) ++ four locals ++ code
