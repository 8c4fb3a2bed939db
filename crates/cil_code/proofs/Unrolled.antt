-- Sections one after the other, whatever their number.
use Rattle.std.proofs.Common.{◌≡◌, ℕ, zero, suc, ◌+◌, ◌-◌, ◌*◌, ◌/◌, ◌%◌, ◌<◌, ◌≤◌, Bool, true, false, not, cond, eqb, leb, List, [], ◌∷◌, ◌++◌, length, drop, Option, Some, None, refl, sym, ap, subst, ◌∙◌, arith, append_assoc, length-append, length-drop}
use Rattle.std.specs.Prelude.{◌&&◌, IsSome, option_map, option_and_then, slice_get, slice_index, unwrap_or}
use Rattle.std.proofs.lemmas.List.{append-nil, nil_from_length}
use Rattle.std.proofs.lemmas.List.FromFn.{length-map-range_with_len, get_or-map-range_with_len}
use Rattle.std.proofs.lemmas.Option.{slice_get-get_or}
use Rattle.std.proofs.lemmas.Bool.{leb-true, eqb-true}
use Rattle.cil_code.specs.declared.clause.Clause.{Clause}
use Rattle.cil_code.specs.declared.clause.Form.{Form}
use Rattle.cil_code.specs.declared.clause.Form.TheVariants.{Small, Fat}
use Rattle.cil_code.specs.declared.sections.Section.{Section}
use Rattle.cil_code.specs.Sections.{clause_len, clause_at, form_of, section_len, formed_section, section_at, clauses_of, followed, sections_within, sections_of, clauses_in}

-- what a section at the front is made of
pub record IsSection (bytes : List ℕ) (section : Section) : Type 0 where
  pub head : 4 ≤ section.size
  pub fits : section.size ≤ length bytes
  pub filled : 4 + clause_len section.form * section.count ≡ section.size

-- a test of three parts that passed
passed : {A : Type 0} (a b c : Bool) (x y : A) → cond (a && b && c) (Some x) None ≡ Some y → (a ≡ true) × (b ≡ true) × (c ≡ true) × (x ≡ y)
passed true true true x y e = (refl, refl, refl, cc)
passed true true false x y e = absurd cc
passed true false c x y e = absurd cc
passed false b c x y e = absurd cc

filled : (form : Form) (len : ℕ) → 4 ≤ len → (len - 4) % clause_len form ≡ 0 → 4 + clause_len form * ((len - 4) / clause_len form) ≡ len
filled Small len head whole = omega arith
filled Fat len head whole = omega arith

pub section_is : (bytes : List ℕ) (section : Section) → section_at bytes ≡ Some section → IsSection bytes section
unfolding section_at
section_is bytes section e = by (form_of (slice_index bytes 0)) e where
  by : (form : Option Form) → option_and_then (formed_section bytes) form ≡ Some section → IsSection bytes section
  by None e = absurd cc
  by (Some form) e =
      let len = section_len form bytes in
      let p = passed (leb 4 len) (leb len (length bytes)) (eqb ((len - 4) % clause_len form) 0) (record { form = form; count = (len - 4) / clause_len form; size = len; goes_on = leb 0x80 (slice_index bytes 0) }) section e in
      let head : 4 ≤ len = leb-true _ _ p.0 in
      subst (IsSection bytes) p.3 (record { head = head; fits = leb-true _ _ p.1; filled = filled form len head (eqb-true _ _ p.2) })

no_section : section_at [] ≡ None
unfolding section_at
no_section = refl

-- one section, and the sections behind it
abbrev pub first_of : (List ℕ → Option (List Clause)) → List ℕ → Option (List Clause)
first_of behind bytes = option_and_then (λ section. followed section bytes (behind (drop section.size bytes))) (section_at bytes)

-- Once there may be as many sections as bytes, more don't matter.
enough : (m n : ℕ) (bytes : List ℕ) → length bytes ≤ m → length bytes ≤ n → sections_within m bytes ≡ sections_within n bytes
unfolding sections_within
enough zero zero bytes p q = refl
enough zero (suc n) [] p q = rw no_section refl
enough zero (suc n) (b ∷ bytes) p q = absurd (omega arith)
enough (suc m) zero [] p q = rw no_section refl
enough (suc m) zero (b ∷ bytes) p q = absurd (omega arith)
enough (suc m) (suc n) bytes p q = by (section_at bytes) refl (λ section shorter fits. enough m n (drop section.size bytes) (omega (arith, length-drop section.size bytes)) (omega (arith, length-drop section.size bytes))) where
  by : (at : Option Section) → section_at bytes ≡ at → ((section : Section) → 4 ≤ section.size → section.size ≤ length bytes → sections_within m (drop section.size bytes) ≡ sections_within n (drop section.size bytes))
      → option_and_then (λ section. followed section bytes (sections_within m (drop section.size bytes))) at ≡ option_and_then (λ section. followed section bytes (sections_within n (drop section.size bytes))) at
  by None e later = refl
  by (Some section) e later = let is = section_is bytes section e in ap (λ behind. followed section bytes behind) (later section is.head is.fits)

within : (most : ℕ) (bytes : List ℕ) → length bytes ≤ suc most → sections_within (suc most) bytes ≡ first_of sections_of bytes
unfolding sections_within sections_of
within most bytes le = by (section_at bytes) refl where
  by : (at : Option Section) → section_at bytes ≡ at
      → option_and_then (λ section. followed section bytes (sections_within most (drop section.size bytes))) at ≡ option_and_then (λ section. followed section bytes (sections_of (drop section.size bytes))) at
  by None e = refl
  by (Some section) e =
      let is = section_is bytes section e in
      ap (λ behind. followed section bytes behind) (enough most (length (drop section.size bytes)) (drop section.size bytes) (omega (arith, length-drop section.size bytes, is.head, is.fits)) (omega arith))

unrolled : (bytes : List ℕ) → sections_of bytes ≡ first_of sections_of bytes
unfolding sections_of sections_within
unrolled [] = rw no_section refl
unrolled (b ∷ bytes) = within (length bytes) (b ∷ bytes) (omega arith)

-- what a section at the front says of the clauses
pub none_here : (bytes : List ℕ) → section_at bytes ≡ None → sections_of bytes ≡ None
none_here bytes e = rw (unrolled bytes, e) refl

pub last_here : (bytes : List ℕ) (section : Section) → section_at bytes ≡ Some section → section.goes_on ≡ false → sections_of bytes ≡ Some (clauses_of section bytes)
last_here bytes section e last = rw (unrolled bytes, e, last) refl

pub more_here : (bytes : List ℕ) (section : Section) → section_at bytes ≡ Some section → section.goes_on ≡ true
    → sections_of bytes ≡ option_map (λ clauses. clauses_of section bytes ++ clauses) (sections_of (drop section.size bytes))
more_here bytes section e more = rw (unrolled bytes, e, more) refl

length-clauses_of : (section : Section) (bytes : List ℕ) → length (clauses_of section bytes) ≡ section.count
length-clauses_of section bytes = length-map-range_with_len _ 0 section.count

-- ---- counting

-- how many clauses the sections have, behind this many
abbrev pub count_behind : ℕ → List ℕ → Option ℕ
count_behind before bytes = option_map (λ n. before + n) (option_map length (sections_of bytes))

none_counted : (before : ℕ) (bytes : List ℕ) → section_at bytes ≡ None → count_behind before bytes ≡ None
none_counted before bytes e = rw (none_here bytes e) refl

last_counted : (before : ℕ) (bytes : List ℕ) (section : Section) → section_at bytes ≡ Some section → section.goes_on ≡ false → count_behind before bytes ≡ Some (before + section.count)
last_counted before bytes section e last = rw (last_here bytes section e last) (ap (λ (n : ℕ). Some (before + n)) (length-clauses_of section bytes))

more_counted : (before : ℕ) (bytes : List ℕ) (section : Section) → section_at bytes ≡ Some section → section.goes_on ≡ true → count_behind before bytes ≡ count_behind (before + section.count) (drop section.size bytes)
more_counted before bytes section e more = rw (more_here bytes section e more) (by (sections_of (drop section.size bytes))) where
  by : (later : Option (List Clause)) → option_map (λ n. before + n) (option_map length (option_map (λ clauses. clauses_of section bytes ++ clauses) later)) ≡ option_map (λ n. before + section.count + n) (option_map length later)
  by None = refl
  by (Some clauses) = ap (λ (n : ℕ). Some n) (omega (arith, length-append (clauses_of section bytes) clauses, length-clauses_of section bytes))

count_behind-none : (bytes : List ℕ) → count_behind 0 bytes ≡ option_map length (sections_of bytes)
count_behind-none bytes = by (option_map length (sections_of bytes)) where
  by : (total : Option ℕ) → option_map (λ n. 0 + n) total ≡ total
  by None = refl
  by (Some n) = ap (λ (m : ℕ). Some m) (omega arith)

pub total_none : (before : ℕ) (rest bytes : List ℕ) → section_at rest ≡ None → count_behind before rest ≡ count_behind 0 bytes → None ≡ option_map length (sections_of bytes)
total_none before rest bytes e so_far = sym (none_counted before rest e) ∙ so_far ∙ count_behind-none bytes

pub total_last : (before : ℕ) (rest bytes : List ℕ) (section : Section) → section_at rest ≡ Some section → section.goes_on ≡ false → count_behind before rest ≡ count_behind 0 bytes
    → Some (before + section.count) ≡ option_map length (sections_of bytes)
total_last before rest bytes section e last so_far = sym (last_counted before rest section e last) ∙ so_far ∙ count_behind-none bytes

pub total_more : (before : ℕ) (rest bytes : List ℕ) (section : Section) → section_at rest ≡ Some section → section.goes_on ≡ true → count_behind before rest ≡ count_behind 0 bytes
    → count_behind (before + section.count) (drop section.size rest) ≡ count_behind 0 bytes
total_more before rest bytes section e more so_far = sym (more_counted before rest section e more) ∙ so_far

-- what a negated test says
pub not_true : (b : Bool) → not b ≡ true → b ≡ false
not_true true e = absurd cc
not_true false e = refl

pub not_false : (b : Bool) → not b ≡ false → b ≡ true
not_false true e = refl
not_false false e = absurd cc

-- a clause has twelve bytes at least
pub twelve_each : (form : Form) (count : ℕ) → 12 * count ≤ clause_len form * count
twelve_each Small count = omega arith
twelve_each Fat count = omega arith

-- the clauses before one in a section end before it
pub each_inside : (form : Form) (k count : ℕ) → k < count → clause_len form * k + clause_len form ≤ clause_len form * count
each_inside Small k count lt = omega arith
each_inside Fat k count lt = omega arith

-- ---- the clause of a number

slice_get-left : {A : Type 0} (xs ys : List A) (i : ℕ) → i < length xs → slice_get (xs ++ ys) i ≡ slice_get xs i
slice_get-left [] ys i lt = absurd (omega arith)
slice_get-left (x ∷ xs) ys zero lt = refl
slice_get-left (x ∷ xs) ys (suc i) lt = slice_get-left xs ys i (omega arith)

slice_get-right : {A : Type 0} (xs ys : List A) (i : ℕ) → length xs ≤ i → slice_get (xs ++ ys) i ≡ slice_get ys (i - length xs)
slice_get-right [] ys i le = ap (slice_get ys) (omega arith)
slice_get-right (x ∷ xs) ys zero le = absurd (omega arith)
slice_get-right (x ∷ xs) ys (suc i) le = slice_get-right xs ys i (omega arith) ∙ ap (slice_get ys) (omega arith)

-- a place among the clauses shows that a section stands at the front
pub some_section : (bytes : List ℕ) (k : ℕ) → k < length (clauses_in bytes) → IsSome (section_at bytes)
some_section bytes k lt = by (section_at bytes) refl where
  by : (at : Option Section) → section_at bytes ≡ at → IsSome at
  by None e = let empty : clauses_in bytes ≡ [] = rw (none_here bytes e) refl in absurd (omega (arith, ap length empty))
  by (Some section) e = refl

-- the clauses behind the section at the front, if all sections stand whole
later_of : (bytes : List ℕ) (section : Section) (k : ℕ) → section_at bytes ≡ Some section → k < length (clauses_in bytes)
    → (clauses_in bytes ≡ clauses_of section bytes ++ cond section.goes_on (clauses_in (drop section.size bytes)) [])
later_of bytes section k e lt = by section.goes_on refl where
  by : (more : Bool) → section.goes_on ≡ more → clauses_in bytes ≡ clauses_of section bytes ++ cond more (clauses_in (drop section.size bytes)) []
  by false last = rw (last_here bytes section e last) (sym (append-nil (clauses_of section bytes)))
  by true more = all (sections_of (drop section.size bytes)) (more_here bytes section e more) where
    all : (later : Option (List Clause)) → sections_of bytes ≡ option_map (λ clauses. clauses_of section bytes ++ clauses) later → clauses_in bytes ≡ clauses_of section bytes ++ unwrap_or later []
    all None none = absurd (let empty : clauses_in bytes ≡ [] = rw none refl in omega (arith, ap length empty))
    all (Some later) some = rw some refl

pub clause_here : (bytes : List ℕ) (section : Section) (k : ℕ) → section_at bytes ≡ Some section → k < length (clauses_in bytes) → k < section.count
    → slice_get (clauses_in bytes) k ≡ Some (clause_at section.form bytes (4 + clause_len section.form * k))
clause_here bytes section k e lt here =
    let front = later_of bytes section k e lt in
    let rest = cond section.goes_on (clauses_in (drop section.size bytes)) [] in
    let len = length-clauses_of section bytes in
    let clause = clause_at section.form bytes (4 + clause_len section.form * k) in
    let at = get_or-map-range_with_len (λ i. clause_at section.form bytes (4 + clause_len section.form * i)) 0 section.count k k clause here (omega arith) in
    ap (λ (all : List Clause). slice_get all k) front ∙ slice_get-left (clauses_of section bytes) rest k (omega arith) ∙ slice_get-get_or (clauses_of section bytes) k clause (omega arith) ∙ ap (λ (c : Clause). Some c) at

pub clause_later : (bytes : List ℕ) (section : Section) (k : ℕ) → section_at bytes ≡ Some section → k < length (clauses_in bytes) → section.count ≤ k
    → (k - section.count < length (clauses_in (drop section.size bytes))) × (slice_get (clauses_in bytes) k ≡ slice_get (clauses_in (drop section.size bytes)) (k - section.count))
clause_later bytes section k e lt later = by section.goes_on (later_of bytes section k e lt) where
  by : (more : Bool) → clauses_in bytes ≡ clauses_of section bytes ++ cond more (clauses_in (drop section.size bytes)) []
      → (k - section.count < length (clauses_in (drop section.size bytes))) × (slice_get (clauses_in bytes) k ≡ slice_get (clauses_in (drop section.size bytes)) (k - section.count))
  by false front = absurd (omega (arith, ap length front, length-append (clauses_of section bytes) [], length-clauses_of section bytes))
  by true front =
      let rest = clauses_in (drop section.size bytes) in
      let len = length-clauses_of section bytes in
      (omega (arith, ap length front, length-append (clauses_of section bytes) rest), ap (λ (all : List Clause). slice_get all k) front ∙ slice_get-right (clauses_of section bytes) rest k (omega arith) ∙ ap (slice_get rest) (omega arith))

pub last_clauses : (bytes : List ℕ) (section : Section) → section_at bytes ≡ Some section → section.goes_on ≡ false → clauses_in bytes ≡ clauses_of section bytes
last_clauses bytes section e last = rw (last_here bytes section e last) refl

pub more_clauses : (bytes : List ℕ) (section : Section) → section_at bytes ≡ Some section → section.goes_on ≡ true → 0 < length (clauses_in bytes)
    → clauses_in bytes ≡ clauses_of section bytes ++ clauses_in (drop section.size bytes)
more_clauses bytes section e more some =
    subst (λ (goes_on : Bool). clauses_in bytes ≡ clauses_of section bytes ++ cond goes_on (clauses_in (drop section.size bytes)) []) more (later_of bytes section 0 e some)

pub count_left : (bytes : List ℕ) (section : Section) (left : ℕ) → clauses_in bytes ≡ clauses_of section bytes ++ clauses_in (drop section.size bytes) → left ≡ length (clauses_in bytes)
    → (section.count ≤ left) × (left - section.count ≡ length (clauses_in (drop section.size bytes)))
count_left bytes section left parts total =
    let len = length-append (clauses_of section bytes) (clauses_in (drop section.size bytes)) in
    let all = ap length parts in
    let first = length-clauses_of section bytes in
    (omega arith, omega arith)

-- ---- no sections

nothing_there : sections_of [] ≡ None
unfolding sections_of sections_within
nothing_there = refl

pub no_clauses : (bytes : List ℕ) → bytes ≡ [] → clauses_in bytes ≡ []
no_clauses bytes e = rw (e, nothing_there) refl

pub none_past : (n : ℕ) (bytes : List ℕ) → length bytes ≤ n → sections_of (drop n bytes) ≡ None
none_past n bytes le =
    let empty : drop n bytes ≡ [] = nil_from_length (drop n bytes) (omega (arith, length-drop n bytes)) in
    rw (empty, nothing_there) refl

pub regrouped : (a b c d : List Clause) → b ++ c ≡ d → (a ++ b) ++ c ≡ a ++ d
regrouped a b c d e = append_assoc a b c ∙ ap (λ (l : List Clause). a ++ l) e
