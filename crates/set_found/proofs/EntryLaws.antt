-- One assembly of an accepted world has an entry (rule 23).
use Rattle.std.proofs.Common.{◌≡◌, ◌⊎◌, inl, inr, ◌∙◌, ℕ, zero, suc, Bool, true, false, List, [], ◌∷◌, drop, take, length, Option, Some, None, refl, sym, ap, arith}
use Rattle.std.specs.Prelude.{◌&&◌, ◌||◌, ◌==◌, not, nat_le, is_some, if◌then◌else◌, slice_get}
use Rattle.std.specs.List.{list_any}
use Rattle.std.proofs.lemmas.Bool.{and_parts, and_from, cases_Bool, eqb-true, eq-eqb, le-leb}
use Rattle.plain_types.specs.declared.fault.TheConstants.{WHOLE_FILE}
use Rattle.file_tables.specs.File.{FilePart}
use Rattle.machine.specs.Data.{Id}
use Rattle.machine.specs.Throw.{on_some}
use Rattle.class_rules.specs.Rules.{holds_some, entry_fits}
use Rattle.class_rules.proofs.Kept.{holds_inv, only_then}
use Rattle.assemblies.specs.Rows.{Assembly}
use Rattle.assemblies.specs.Binding.{id_at, entry_from}
use Rattle.world_rows.specs.Rows.{entry_named}
use Rattle.world_rows.specs.World.{assemblies_of, ecma_sources}
use Rattle.verdict_rules.specs.Order.{phase_fault}
use Rattle.verdict_rules.specs.World.{World, world_of}
use Rattle.verdict_rules.specs.Types.{entry_tests, type_rules, has_entry, own_entry_well, some_entry, begins_in}
use Rattle.verdict_laws.proofs.Kept.{tests_kept, whole_kept}
use Rattle.rows_resolved.specs.Resolved.{IsAccepted}
use Rattle.rows_resolved.proofs.Accepted.{in_types}
use Rattle.rows_resolved.proofs.Types.{file_of}
use Rattle.set_found.specs.Set.{entry_count}

-- an assembly that has an entry
pub record Enters (ps : List Assembly) : Type 0 where
  pub place : ℕ
  pub assembly : Assembly
  pub at : slice_get ps place ≡ Some assembly
  pub has : is_some assembly.entry ≡ true

enters_behind : (p : Assembly) (ps : List Assembly) → Enters ps → Enters (p ∷ ps)
enters_behind p ps e = record { place = suc e.place; assembly = e.assembly; at = e.at; has = e.has }

entry_there : (n : ℕ) (ps : List Assembly) (c : Id) → entry_from n ps ≡ Some c → Enters ps
entry_there n [] c e = absurd (cc e)
entry_there n (p ∷ ps) c e = by p.entry refl e (λ h. entry_there (suc n) ps c h)
  where
    by : (o : Option ℕ) → p.entry ≡ o → elim o as (λ _. Option Id) [ None ↦ entry_from (suc n) ps | Some row ↦ on_some (slice_get p.methods row) (λ m. if m.is_static then Some (id_at n row) else None) ] ≡ Some c → (entry_from (suc n) ps ≡ Some c → Enters ps) → Enters (p ∷ ps)
    by None named h rest = enters_behind p ps (rest h)
    by (Some row) named h rest = record { place = 0; assembly = p; at = refl; has = ap is_some named }

-- ---- one alone

abbrev Alone : List Assembly → ℕ → Type 0
Alone ps k = (f : ℕ) (q : Assembly) → slice_get ps f ≡ Some q → is_some q.entry ≡ true → f ≡ k

count_without : (q : Assembly) (n : ℕ) → is_some q.entry ≡ false → (if is_some q.entry then suc n else n) ≡ n
count_without q n e = ap (λ b. if b then suc n else n) e

no_entry : (ps : List Assembly) → ((f : ℕ) (q : Assembly) → slice_get ps f ≡ Some q → is_some q.entry ≡ true → ⊥) → entry_count ps ≡ 0
no_entry [] h = refl
no_entry (q ∷ qs) h = by (is_some q.entry) refl (no_entry qs (λ f r at has. h (suc f) r at has))
  where
    by : (b : Bool) → is_some q.entry ≡ b → entry_count qs ≡ 0 → (if is_some q.entry then suc (entry_count qs) else entry_count qs) ≡ 0
    by true e rest = absurd (h 0 q refl e)
    by false e rest = count_without q (entry_count qs) e ∙ rest

one_entry_at : (ps : List Assembly) (k : ℕ) (p : Assembly) → slice_get ps k ≡ Some p → is_some p.entry ≡ true → Alone ps k → entry_count ps ≡ 1
one_entry_at [] k p at has alone = absurd (cc at)
one_entry_at (q ∷ qs) zero p at has alone =
    let same : q ≡ p = cc at in
    let here : is_some q.entry ≡ true = ap (λ (r : Assembly). is_some r.entry) same ∙ has in
    ap (λ b. if b then suc (entry_count qs) else entry_count qs) here
    ∙ ap suc (no_entry qs (λ f r there is. let far : suc f ≡ 0 = alone (suc f) r there is in absurd (omega (arith, far))))
one_entry_at (q ∷ qs) (suc k) p at has alone =
    by (is_some q.entry) refl (one_entry_at qs k p at has (λ f r there is. let far : suc f ≡ suc k = alone (suc f) r there is in omega (arith, far)))
  where
    by : (b : Bool) → is_some q.entry ≡ b → entry_count qs ≡ 1 → (if is_some q.entry then suc (entry_count qs) else entry_count qs) ≡ 1
    by true e rest = let near : 0 ≡ suc k = alone 0 q refl e in absurd (omega (arith, near))
    by false e rest = count_without q (entry_count qs) e ∙ rest

-- ---- of accepted files

record EntersFile (xs : List FilePart) : Type 0 where
  place : ℕ
  file : FilePart
  at : slice_get xs place ≡ Some file
  has : has_entry file ≡ true

any_inv : (xs : List FilePart) → list_any has_entry xs ≡ true → EntersFile xs
any_inv [] e = absurd (cc e)
any_inv (x ∷ xs) e = by (has_entry x) refl e (any_inv xs)
  where
    by : (b : Bool) → has_entry x ≡ b → (b || list_any has_entry xs) ≡ true → (list_any has_entry xs ≡ true → EntersFile xs) → EntersFile (x ∷ xs)
    by true is h rest = record { place = 0; file = x; at = refl; has = is }
    by false is h rest = let r = rest h in record { place = suc r.place; file = r.file; at = r.at; has = r.has }

last_there : (b : FilePart) (xs : List FilePart) → (x : FilePart) × (slice_get (b ∷ xs) (length xs) ≡ Some x)
last_there b [] = (b, refl)
last_there b (x ∷ xs) = last_there x xs

some_is : (o : Option ℕ) → is_some o ≡ true → (n : ℕ) × (o ≡ Some n)
some_is None e = absurd (cc e)
some_is (Some n) e = (n, refl)

record Begins (files : List FilePart) (f : ℕ) : Type 0 where
  entry : Id
  is : (ecma_sources files).entry ≡ Some entry
  file : entry.file ≡ f

module _ (files : List FilePart) (kept : phase_fault (type_rules (world_of files)) files ≡ None) where
  abbrev w : World
  w = world_of files

  told : (f : ℕ) (x : FilePart) → slice_get files f ≡ Some x → (own_entry_well w f x ≡ true) × (some_entry w f ≡ true)
  told f x at = and_parts (own_entry_well w f x) (some_entry w f) (tests_kept f WHOLE_FILE 0 (entry_tests w f x) 0 (whole_kept (type_rules w) files kept f x at))

  begins : (f : ℕ) (x : FilePart) → slice_get files f ≡ Some x → nat_le 2 f ≡ true → has_entry x ≡ true → Begins files f
  begins f x at user has =
      let one = and_parts (not (list_any has_entry (drop 2 (take f files)))) (begins_in w f) (only_then (nat_le 2 f && has_entry x) _ (told f x at).0 (and_from (nat_le 2 f) (has_entry x) user has)) in
      let both = and_parts (holds_some (ecma_sources files).entry (λ (c : Id). c.file == f)) (entry_fits (ecma_sources files)) one.1 in
      let c = holds_inv (ecma_sources files).entry (λ (c : Id). c.file == f) both.0 in
      record { entry = c.0; is = c.1; file = eqb-true c.0.file f c.2 }

  user : (x : FilePart) (n : ℕ) (b : Bool) → (if b then entry_named x.pe.entry else None) ≡ Some n → (b ≡ true) × (entry_named x.pe.entry ≡ Some n)
  user x n true e = (refl, e)
  user x n false e = absurd (cc e)

  entered : (x : FilePart) (n : ℕ) → entry_named x.pe.entry ≡ Some n → has_entry x ≡ true
  entered x n e = by (cases_Bool (x.pe.entry == 0))
    where
      by : (x.pe.entry == 0 ≡ true) ⊎ (x.pe.entry == 0 ≡ false) → has_entry x ≡ true
      by (inl h) = absurd (let none : None ≡ Some n = sym (ap entry_named (eqb-true x.pe.entry 0 h)) ∙ e in cc none)
      by (inr h) = ap not h

  begun : (f : ℕ) (p : Assembly) → slice_get (assemblies_of files) f ≡ Some p → is_some p.entry ≡ true → Begins files f
  begun f p at has =
      let x = file_of files f p at in
      let n = some_is p.entry has in
      let u = user x.0 n.0 (nat_le 2 f) (ap (λ (q : Assembly). q.entry) x.2 ∙ n.1) in
      begins f x.0 x.1 u.0 (entered x.0 n.0 u.1)

  -- the one entry is that of each assembly that has one
  one_of : (c : Id) → (ecma_sources files).entry ≡ Some c → entry_count (assemblies_of files) ≡ 1
  one_of c is =
      let e = entry_there 0 (assemblies_of files) c is in
      one_entry_at (assemblies_of files) e.place e.assembly e.at e.has
      (λ f q at has.
      let there = begun f q at has in
      let first = begun e.place e.assembly e.at e.has in
      let same : there.entry ≡ first.entry = cc (sym there.is ∙ first.is) in
      sym there.file ∙ ap (λ (d : Id). d.file) same ∙ first.file)

module _ (a b : FilePart) (xs : List FilePart) (accepted : IsAccepted (a ∷ b ∷ xs)) where
  abbrev files : List FilePart
  files = a ∷ b ∷ xs

  abbrev kept : phase_fault (type_rules (world_of (a ∷ b ∷ xs))) (a ∷ b ∷ xs) ≡ None
  kept = in_types (a ∷ b ∷ xs) accepted

  pub one_entry : entry_count (assemblies_of (a ∷ b ∷ xs)) ≡ 1
  one_entry =
      let last = last_there b xs in
      let any : list_any has_entry xs ≡ true = only_then (suc (suc (length xs)) == length files) (list_any has_entry xs) (told files kept (suc (length xs)) last.0 last.1).1 (eq-eqb (suc (suc (length xs))) (length files) refl) in
      let x = any_inv xs any in
      let b = begins files kept (suc (suc x.place)) x.file x.at (le-leb 2 (suc (suc x.place)) (omega arith)) x.has in
      one_of files kept b.entry b.is
