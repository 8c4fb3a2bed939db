-- Signatures and bodies are bytes, and short.
use Rattle.std.proofs.Common.{◌≡◌, ℕ, ◌+◌, ◌*◌, ◌/◌, ◌%◌, ◌^◌, ◌<◌, ◌≤◌, List, [], ◌∷◌, ◌++◌, length, Bool, true, false, refl, ◌∙◌, arith, length-append}
use Rattle.std.specs.Prelude.{nat_lt, if◌then◌else◌}
use Rattle.std.specs.List.{list_all}
use Rattle.std.specs.Cmp.Derive.{both_true}
use Rattle.std.proofs.lemmas.Bool.{lt-ltb, ltb-true, cond_both, and_parts}
use Rattle.std.proofs.lemmas.Bool.Decides.{nat_tests}
use Rattle.std.proofs.lemmas.List.Folds.{list_all-append}
use Rattle.base_tables.specs.Shape.{Item, Kind, Signature, Line}
use Rattle.base_tables.specs.declared.shape.Element.{Element}
use Rattle.base_tables.specs.declared.shape.Element.TheVariants.{Void, Bool as OfBool, Char, Int32, Int64, UInt64, String, Object, Class, Value, Chars, Strings, Objects}
use Rattle.base_tables.specs.declared.shape.Form.{Form}
use Rattle.base_tables.specs.declared.shape.Form.TheVariants.{At, Do, Small, Jump, Name}
use Rattle.cil_layout.specs.Askable.{are_bytes}
use Rattle.cil_layout.specs.Layout.{two, four}
use Rattle.cil_layout.specs.Text.{compressed}
use Rattle.cil_layout.specs.Numbers.{type_index, type_tag, token_table}
use Rattle.base_lib.specs.Keys.{token_of_key}
use Rattle.base_lib.specs.Signatures.{element_bytes, kind_bytes, kinds_bytes, method_signature, field_signature, locals_signature}
use Rattle.base_lib.specs.Code.{op_bytes, form_bytes, line_bytes, code_from, body_bytes, line_length}

-- bytes, and at most so many
pub record IsBlob (most : ℕ) (blob : List ℕ) : Type 0 where
  pub bytes : are_bytes blob ≡ true
  pub short : length blob ≤ most

-- one behind the other
joined : (m n : ℕ) (a b : List ℕ) → IsBlob m a → IsBlob n b → IsBlob (m + n) (a ++ b)
joined m n a b first second = record {
  bytes = list_all-append (λ x. nat_lt x 256) a b ∙ both_true first.bytes second.bytes;
  short = omega (arith, length-append a b, first.short, second.short);
}

-- a larger bound
longer : (m n : ℕ) (a : List ℕ) → m ≤ n → IsBlob m a → IsBlob n a
longer m n a more blob = record { bytes = blob.bytes; short = omega (arith, blob.short) }

-- a remainder by 256 is a byte
small_byte : (n : ℕ) → nat_lt (n % 256) 256 ≡ true
small_byte n = lt-ltb (n % 256) 256 (omega arith)

-- numbers of four and two bytes
four_blob : (n : ℕ) → IsBlob 4 (four n)
four_blob n = record { bytes = search (both_true, small_byte); short = omega arith }

two_blob : (n : ℕ) → IsBlob 2 (two n)
two_blob n = record { bytes = search (both_true, small_byte); short = omega arith }

-- a number below 2 ^ 29 in its shortest form
compressed_blob : (n : ℕ) → n < 2 ^ 29 → IsBlob 4 (compressed n)
compressed_blob n below =
    cond_both (nat_lt n 128) (n ∷ []) _ (IsBlob 4) (λ one. record { bytes = both_true (lt-ltb n 256 (omega (arith, ltb-true n 128 one))) refl; short = omega arith })
    (λ _. cond_both (nat_lt n (2 ^ 14)) ((128 + n / 256) ∷ (n % 256) ∷ []) ((192 + n / 2 ^ 24) ∷ (n / 2 ^ 16 % 256) ∷ (n / 256 % 256) ∷ (n % 256) ∷ []) (IsBlob 4)
    (λ two. record { bytes = both_true (lt-ltb (128 + n / 256) 256 (omega (arith, ltb-true n (2 ^ 14) two))) (both_true (small_byte n) refl); short = omega arith })
    (λ _. record { bytes = both_true (lt-ltb (192 + n / 2 ^ 24) 256 (omega arith)) (search (both_true, small_byte)); short = omega arith }))

-- a type's coded index
type_tag_le : (table : ℕ) → type_tag table ≤ 2
type_tag_le table = grind (arith, nat_tests)

type_blob : (token : ℕ) → IsBlob 4 (compressed (type_index token))
type_blob token = compressed_blob (type_index token) (omega (arith, type_tag_le (token_table token)))

-- types
element_blob : (items : List Item) (element : Element) (key : List ℕ) → IsBlob 5 (element_bytes items element key)
element_blob items Void key = record { bytes = refl; short = omega arith }
element_blob items OfBool key = record { bytes = refl; short = omega arith }
element_blob items Char key = record { bytes = refl; short = omega arith }
element_blob items Int32 key = record { bytes = refl; short = omega arith }
element_blob items Int64 key = record { bytes = refl; short = omega arith }
element_blob items UInt64 key = record { bytes = refl; short = omega arith }
element_blob items String key = record { bytes = refl; short = omega arith }
element_blob items Object key = record { bytes = refl; short = omega arith }
element_blob items Class key = joined 1 4 (0x12 ∷ []) _ (record { bytes = refl; short = omega arith }) (type_blob (token_of_key items key))
element_blob items Value key = joined 1 4 (0x11 ∷ []) _ (record { bytes = refl; short = omega arith }) (type_blob (token_of_key items key))
element_blob items Chars key = record { bytes = refl; short = omega arith }
element_blob items Strings key = record { bytes = refl; short = omega arith }
element_blob items Objects key = record { bytes = refl; short = omega arith }

kinds_blob : (items : List Item) (kinds : List Kind) → IsBlob (5 * length kinds) (kinds_bytes items kinds)
kinds_blob items [] = record { bytes = refl; short = omega arith }
kinds_blob items (k ∷ ks) =
    longer (5 + 5 * length ks) _ _ (omega arith) (joined 5 (5 * length ks) (kind_bytes items k) (kinds_bytes items ks) (element_blob items k.element k.class) (kinds_blob items ks))

-- signatures of at most 100 types
pub field_blob : (items : List Item) (kind : Kind) → IsBlob 6 (field_signature items kind)
field_blob items kind = joined 1 5 (0x06 ∷ []) (kind_bytes items kind) (record { bytes = refl; short = omega arith }) (element_blob items kind.element kind.class)

pub locals_blob : (items : List Item) (kinds : List Kind) → length kinds ≤ 100 → IsBlob 600 (locals_signature items kinds)
locals_blob items kinds few =
    longer (1 + (4 + 5 * length kinds)) 600 _ (omega arith)
    (joined 1 (4 + 5 * length kinds) (0x07 ∷ []) _ (record { bytes = refl; short = omega arith })
    (joined 4 (5 * length kinds) (compressed (length kinds)) (kinds_bytes items kinds) (compressed_blob (length kinds) (omega arith)) (kinds_blob items kinds)))

-- a method's first byte
this_byte : (this : Bool) → IsBlob 1 ((if this then 0x20 else 0) ∷ [])
this_byte true = record { bytes = refl; short = omega arith }
this_byte false = record { bytes = refl; short = omega arith }

pub method_blob : (items : List Item) (s : Signature) → length s.params ≤ 100 → IsBlob 600 (method_signature items s)
method_blob items s few =
    longer (1 + (4 + 5 + 5 * length s.params)) 600 _ (omega arith)
    (joined 1 (4 + 5 + 5 * length s.params) _ (compressed (length s.params) ++ kind_bytes items s.result ++ kinds_bytes items s.params) (this_byte s.this)
    (joined (4 + 5) (5 * length s.params) (compressed (length s.params) ++ kind_bytes items s.result) (kinds_bytes items s.params)
    (joined 4 5 (compressed (length s.params)) (kind_bytes items s.result) (compressed_blob (length s.params) (omega arith)) (element_blob items s.result.element s.result.class))
    (kinds_blob items s.params)))

-- opcodes, lines and code
op_blob : (op : ℕ) → IsBlob 2 (op_bytes op)
op_blob op =
    cond_both (nat_lt op 256) (op ∷ []) (0xFE ∷ (op % 256) ∷ []) (IsBlob 2) (λ one. record { bytes = both_true one refl; short = omega arith })
    (λ _. record { bytes = both_true (small_byte op) refl; short = omega arith })

form_blob : (items : List Item) (all : List Line) (at : ℕ) (form : Form) (line : Line) → nat_lt line.number 256 ≡ true → IsBlob 6 (form_bytes items all at form line)
form_blob items all at At line small = record { bytes = refl; short = omega arith }
form_blob items all at Do line small = longer 2 6 (op_bytes line.op) (omega arith) (op_blob line.op)
form_blob items all at Small line small = longer (2 + 1) 6 _ (omega arith) (joined 2 1 (op_bytes line.op) (line.number ∷ []) (op_blob line.op) (record { bytes = both_true small refl; short = omega arith }))
form_blob items all at Jump line small = longer (2 + 1) 6 _ (omega arith) (joined 2 1 (op_bytes line.op) _ (op_blob line.op) (record { bytes = both_true (small_byte _) refl; short = omega arith }))
form_blob items all at Name line small = joined 2 4 (op_bytes line.op) (four (token_of_key items line.text)) (op_blob line.op) (four_blob (token_of_key items line.text))

code_blob : (items : List Item) (all : List Line) (at : ℕ) (lines : List Line) → list_all (λ line. nat_lt line.number 256) lines ≡ true → IsBlob (6 * length lines) (code_from items all at lines)
unfolding code_from
code_blob items all at [] small = record { bytes = refl; short = omega arith }
code_blob items all at (line ∷ lines) small =
    let parts : (nat_lt line.number 256 ≡ true) × (list_all (λ l. nat_lt l.number 256) lines ≡ true) = and_parts (nat_lt line.number 256) (list_all (λ l. nat_lt l.number 256) lines) small in
    longer (6 + 6 * length lines) _ _ (omega arith)
    (joined 6 (6 * length lines) (line_bytes items all at line) (code_from items all ((at + line_length line) % 256) lines) (form_blob items all at line.form line parts.0)
    (code_blob items all ((at + line_length line) % 256) lines parts.1))

-- a body of at most 500 lines
pub body_blob : (items : List Item) (max_stack locals : ℕ) (lines : List Line) → length lines ≤ 500 → list_all (λ line. nat_lt line.number 256) lines ≡ true → IsBlob 3100 (body_bytes items max_stack locals lines)
unfolding body_bytes
body_blob items max_stack locals lines few small =
    let code : List ℕ = code_from items lines 0 lines in
    longer (2 + (2 + 4 + 4 + 6 * length lines)) 3100 _ (omega arith)
    (joined 2 (2 + 4 + 4 + 6 * length lines) (0x13 ∷ 0x30 ∷ []) _ (record { bytes = refl; short = omega arith })
    (joined (2 + 4 + 4) (6 * length lines) (two max_stack ++ four (length code) ++ four locals) code
    (joined (2 + 4) 4 (two max_stack ++ four (length code)) (four locals) (joined 2 4 (two max_stack) (four (length code)) (two_blob max_stack) (four_blob (length code))) (four_blob locals))
    (code_blob items lines 0 lines small)))
