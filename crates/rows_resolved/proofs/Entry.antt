-- The entry of an accepted file is one of its methods (rule 23).
use Rattle.std.proofs.Common.{◌≡◌, ◌⊎◌, inl, inr, ℕ, suc, ◌+◌, Bool, true, false, List, [], ◌∷◌, drop, take, Option, Some, None, refl, sym, ap, ◌∙◌, subst, arith}
use Rattle.std.specs.Prelude.{◌&&◌, ◌==◌, not, nat_le, if◌then◌else◌, slice_get}
use Rattle.std.specs.List.{list_any}
use Rattle.std.proofs.lemmas.Bool.{and_parts, and_from, cases_Bool, eqb-true}
use Rattle.plain_types.specs.declared.fault.TheConstants.{WHOLE_FILE}
use Rattle.file_tables.specs.File.{FilePart}
use Rattle.machine.specs.Data.{Id}
use Rattle.machine.specs.Throw.{on_some}
use Rattle.class_rules.specs.Rules.{holds_some, entry_fits}
use Rattle.class_rules.proofs.Kept.{holds_inv, only_then}
use Rattle.assemblies.specs.Rows.{MethodRow, Assembly}
use Rattle.assemblies.specs.Binding.{id_at, entry_from}
use Rattle.assemblies.proofs.Binds.{on_some_back}
use Rattle.world_rows.specs.Rows.{entry_named}
use Rattle.world_rows.specs.World.{assemblies_of, ecma_sources}
use Rattle.verdict_rules.specs.Order.{phase_fault}
use Rattle.verdict_rules.specs.World.{World, world_of}
use Rattle.verdict_rules.specs.Types.{entry_tests, type_rules, has_entry, own_entry_well, some_entry, begins_in}
use Rattle.verdict_laws.proofs.Kept.{tests_kept, whole_kept}
use Rattle.rows_resolved.proofs.Types.{file_of}

-- the first entry is a method of its assembly
pub record IsEntry (n : ℕ) (ps : List Assembly) (c : Id) : Type 0 where
  pub place : ℕ
  pub assembly : Assembly
  pub method : MethodRow
  pub at : slice_get ps place ≡ Some assembly
  pub file : c.file ≡ n + place
  pub named : assembly.entry ≡ Some c.row
  pub there : slice_get assembly.methods c.row ≡ Some method

entry_there : (n : ℕ) (ps : List Assembly) (c : Id) → entry_from n ps ≡ Some c → IsEntry n ps c
entry_there n [] c e = absurd (cc e)
entry_there n (p ∷ ps) c e = by p.entry refl e (λ h. entry_there (suc n) ps c h)
  where
    later : IsEntry (suc n) ps c → IsEntry n (p ∷ ps) c
    later i = record { place = suc i.place; assembly = i.assembly; method = i.method; at = i.at; file = (let h = i.file in omega (arith, h)); named = i.named; there = i.there }

    static : (row : ℕ) (m : MethodRow) → p.entry ≡ Some row → slice_get p.methods row ≡ Some m → (b : Bool) → (if b then Some (id_at n row) else None) ≡ Some c → IsEntry n (p ∷ ps) c
    static row m named there false h = absurd (cc h)
    static row m named there true h = (let same : id_at n row ≡ c = cc h in subst (IsEntry n (p ∷ ps)) same (record { place = 0; assembly = p; method = m; at = refl; file = (let here : n ≡ n + 0 = omega arith in here); named = named; there = there }))

    by : (o : Option ℕ) → p.entry ≡ o → elim o as (λ _. Option Id) [ None ↦ entry_from (suc n) ps | Some row ↦ on_some (slice_get p.methods row) (λ m. if m.is_static then Some (id_at n row) else None) ] ≡ Some c → (entry_from (suc n) ps ≡ Some c → IsEntry (suc n) ps c) → IsEntry n (p ∷ ps) c
    by None named h rest = later (rest h)
    by (Some row) named h rest = let m = on_some_back (slice_get p.methods row) (λ m. if m.is_static then Some (id_at n row) else None) c h in static row m.0 named m.1 m.0.is_static m.2

module _ (files : List FilePart) (in_types : phase_fault (type_rules (world_of files)) files ≡ None) where
  abbrev w : World
  w = world_of files

  user : (f : ℕ) (x : FilePart) (n : ℕ) (b : Bool) → (if b then entry_named x.pe.entry else None) ≡ Some n → (b ≡ true) × (entry_named x.pe.entry ≡ Some n)
  user f x n true e = (refl, e)
  user f x n false e = absurd (cc e)

  entered : (x : FilePart) (n : ℕ) → entry_named x.pe.entry ≡ Some n → has_entry x ≡ true
  entered x n e = by (cases_Bool (x.pe.entry == 0))
    where
      by : (x.pe.entry == 0 ≡ true) ⊎ (x.pe.entry == 0 ≡ false) → has_entry x ≡ true
      by (inl h) = absurd (let none : None ≡ Some n = sym (ap entry_named (eqb-true x.pe.entry 0 h)) ∙ e in cc none)
      by (inr h) = ap not h

  pub entry_means : (f n : ℕ) (p : Assembly) → slice_get (assemblies_of files) f ≡ Some p → p.entry ≡ Some n → (m : MethodRow) × (slice_get p.methods n ≡ Some m)
  entry_means f n p at named =
      let x = file_of files f p at in
      let u = user f x.0 n (nat_le 2 f) (ap (λ (q : Assembly). q.entry) x.2 ∙ named) in
      let kept = whole_kept (type_rules w) files in_types f x.0 x.1 in
      let both = and_parts (own_entry_well w f x.0) (some_entry w f) (tests_kept f WHOLE_FILE 0 (entry_tests w f x.0) 0 kept) in
      let one = and_parts (not (list_any has_entry (drop 2 (take f files)))) (begins_in w f) (only_then (nat_le 2 f && has_entry x.0) _ both.0 (and_from (nat_le 2 f) (has_entry x.0) u.0 (entered x.0 n u.1))) in
      let begins = and_parts (holds_some (ecma_sources files).entry (λ (c : Id). c.file == f)) (entry_fits (ecma_sources files)) one.1 in
      let c = holds_inv (ecma_sources files).entry (λ (c : Id). c.file == f) begins.0 in
      found (entry_there 0 (assemblies_of files) c.0 c.1) (eqb-true c.0.file f c.2)
    where
      found : {c : Id} → IsEntry 0 (assemblies_of files) c → c.file ≡ f → (m : MethodRow) × (slice_get p.methods n ≡ Some m)
      found {c} i same =
          let place : i.place ≡ f = (let h = i.file in omega (arith, h, same)) in
          let assembly : Some i.assembly ≡ Some p = sym i.at ∙ (ap (slice_get (assemblies_of files)) place ∙ at) in
          let is : i.assembly ≡ p = cc assembly in
          let rows : Some c.row ≡ Some n = sym i.named ∙ (ap (λ (q : Assembly). q.entry) is ∙ named) in
          let row : c.row ≡ n = cc rows in
          (i.method, subst (λ z. slice_get p.methods z ≡ Some i.method) row (subst (λ (q : Assembly). slice_get q.methods c.row ≡ Some i.method) is i.there))
