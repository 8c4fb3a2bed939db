-- What the tables are made of, as plain values.
use Rattle.std.specs.Prelude.{ℕ, List, map, Bool}
use Rattle.std.specs.Borrow.{Bor}
use Rattle.base_tables.specs.declared.op.Op.{Op}
use Rattle.base_tables.specs.declared.shape.Form.{Form as AForm}
use Rattle.base_tables.specs.declared.shape.Element.{Element as AnElement}
use Rattle.base_tables.specs.declared.shape.Work.{Work as AWork}
use Rattle.base_tables.specs.declared.shape.Entry.{Entry as AnEntry}

-- a line of a body
pub record Line : Type 0 where
  pub form : AForm
  pub op : ℕ
  pub number : ℕ
  pub text : List ℕ

-- a type of a signature
pub record Kind : Type 0 where
  pub element : AnElement
  pub class : List ℕ

-- a method's signature
pub record Signature : Type 0 where
  pub this : Bool
  pub result : Kind
  pub params : List Kind

-- what a method does
pub record Body : Type 0 where
  pub work : AWork
  pub number : ℕ
  pub locals : List Kind
  pub lines : List Line

-- one thing that is asked for
pub record Item : Type 0 where
  pub entry : AnEntry
  pub key : List ℕ
  pub name : List ℕ
  pub namespace : List ℕ
  pub base : List ℕ
  pub flags : ℕ
  pub signature : Signature
  pub body : Body

-- A row of the tables, for any way in which texts and lists stand in it.
abbrev pub kind_with : {T : Type 0} → (T → List ℕ) → AnElement × T → Kind
kind_with text k = record { element = k.0; class = text k.1 }

abbrev pub line_with : {T : Type 0} → (T → List ℕ) → AForm × Op × ℕ × T → Line
line_with text l = record { form = l.0; op = l.1.0; number = l.2; text = text l.3 }

abbrev pub signature_with : {T K : Type 0} → (T → List ℕ) → (K → List Kind) → Bool × (AnElement × T) × K → Signature
signature_with text kinds s = record { this = s.0; result = kind_with text s.1; params = kinds s.2 }

abbrev pub body_with : {K L : Type 0} → (K → List Kind) → (L → List Line) → AWork × ℕ × K × L → Body
body_with kinds lines b = record { work = b.0; number = b.1; locals = kinds b.2; lines = lines b.3 }

abbrev pub item_with : {T K L : Type 0} → (T → List ℕ) → (K → List Kind) → (L → List Line) → AnEntry × T × T × T × T × ℕ × (Bool × (AnElement × T) × K) × (AWork × ℕ × K × L) → Item
item_with text kinds lines i = record {
  entry = i.0;
  key = text i.1;
  name = text i.2;
  namespace = text i.3;
  base = text i.4;
  flags = i.5;
  signature = signature_with text kinds i.6;
  body = body_with kinds lines i.7;
}

-- The rows, for any way in which references stand in them.
abbrev pub LineRow : (Type 0 → Type 0) → Type 0
LineRow R = AForm × Op × ℕ × R (List ℕ)

abbrev pub KindRow : (Type 0 → Type 0) → Type 0
KindRow R = AnElement × R (List ℕ)

abbrev pub SignatureRow : (Type 0 → Type 0) → Type 0
SignatureRow R = Bool × KindRow R × R (List (KindRow R))

abbrev pub BodyRow : (Type 0 → Type 0) → Type 0
BodyRow R = AWork × ℕ × R (List (KindRow R)) × R (List (LineRow R))

abbrev pub ItemRow : (Type 0 → Type 0) → Type 0
ItemRow R = AnEntry × R (List ℕ) × R (List ℕ) × R (List ℕ) × R (List ℕ) × ℕ × SignatureRow R × BodyRow R

-- what the rows say that code reads
abbrev pub kind_of : KindRow Bor → Kind
kind_of k = kind_with (λ t. t.now) k

abbrev pub kinds_of : List (KindRow Bor) → List Kind
kinds_of kinds = map kind_of kinds

abbrev pub line_of : LineRow Bor → Line
line_of l = line_with (λ t. t.now) l

abbrev pub lines_of : List (LineRow Bor) → List Line
lines_of lines = map line_of lines

abbrev pub signature_of : SignatureRow Bor → Signature
signature_of s = signature_with (λ t. t.now) (λ kinds. kinds_of kinds.now) s

abbrev pub body_of : BodyRow Bor → Body
body_of b = body_with (λ kinds. kinds_of kinds.now) (λ lines. lines_of lines.now) b

abbrev pub item_of : ItemRow Bor → Item
item_of i = item_with (λ t. t.now) (λ kinds. kinds_of kinds.now) (λ lines. lines_of lines.now) i

abbrev pub items_of : List (ItemRow Bor) → List Item
items_of items = map item_of items

-- a constant's reference
abbrev pub Shown : Type 0 → Type 0
Shown X = record { now : X }

-- what a constant says
abbrev pub items_shown : Shown (List (ItemRow Shown)) → List Item
items_shown items =
    map (item_with (λ t. t.now) (λ kinds. map (kind_with (λ t. t.now)) kinds.now) (λ lines. map (line_with (λ t. t.now)) lines.now)) items.now
