-- A reference inside others names the same in any number of steps above that of all references.
use Rattle.std.proofs.Common.{◌≡◌, ◌⊎◌, inl, inr, ℕ, zero, suc, ◌+◌, ◌<◌, ◌≤◌, Bool, true, false, List, [], ◌∷◌, length, Option, Some, None, refl, sym, ap, ◌∙◌, subst, arith}
use Rattle.std.specs.Prelude.{◌&&◌, slice_get, unwrap_or}
use Rattle.std.specs.List.{list_all}
use Rattle.std.specs.Option.{option_map}
use Rattle.machine.specs.Data.{Id}
use Rattle.machine.specs.Throw.{on_some}
use Rattle.classes.specs.Queries.{ends}
use Rattle.assemblies.specs.Rows.{Scope, OfAssembly, Inside, Nowhere, TypeRefRow, Assembly}
use Rattle.assemblies.specs.Binding.{id_at, type_in, in_scope, resolve_ref}
use Rattle.assemblies.specs.Closed.{Each}
use Rattle.world_rows.specs.World.{reference_count}
use Rattle.enough_steps.proofs.Rounds.{Same, enough}
use Rattle.enough_steps.proofs.Nodes.{ids, of_id, reference_ids}

one_all : (b : Bool) → (b && true) ≡ true → b ≡ true
one_all true e = refl
one_all false e = e

one_none : (b : Bool) → (b && true) ≡ false → b ≡ false
one_none true e = e
one_none false e = refl

module _ (ps : List Assembly) where
  abbrev around : ℕ → Scope → List Id
  around f (Inside m) = id_at f m ∷ []
  around f _ = []

  abbrev around_row : ℕ → Option TypeRefRow → List Id
  around_row f o = unwrap_or (option_map (λ (r : TypeRefRow). around f r.scope) o) []

  abbrev around_file : ℕ → ℕ → Option Assembly → List Id
  around_file f n o = unwrap_or (option_map (λ (p : Assembly). around_row f (slice_get p.refs n)) o) []

  -- the reference that one is inside
  next : Id → List Id
  next c = around_file c.file c.row (slice_get ps c.file)

  abbrev Goes : ℕ → List Id → Type 0
  Goes n xs = list_all (ends n next) xs ≡ true

  abbrev On : ℕ → ℕ → ℕ → Type 0
  On n m f = (l : ℕ) → ends n next (id_at f l) ≡ true → resolve_ref n ps f l ≡ resolve_ref m ps f l

  abbrev Fails : ℕ → List Id → Type 0
  Fails n xs = list_all (ends n next) xs ≡ false

  abbrev Ends : ℕ → ℕ → Type 0
  Ends n f = (l : ℕ) → ends n next (id_at f l) ≡ false → resolve_ref n ps f l ≡ None

  -- where the way ends, more steps change nothing
  more : (n m f k : ℕ) → n ≤ m → ends n next (id_at f k) ≡ true → resolve_ref n ps f k ≡ resolve_ref m ps f k
  unfolding next
  more zero m f k h e = absurd (cc e)
  more (suc n) zero f k h e = absurd (omega (arith, h))
  more (suc n) (suc m) f k h e = by_file (slice_get ps f) e (λ l t. more n m f l (omega (arith, h)) t)
    where
      by_scope : (r : TypeRefRow) (s : Scope) → Goes n (around f s) → On n m f → in_scope ps f (resolve_ref n ps f) r s ≡ in_scope ps f (resolve_ref m ps f) r s
      by_scope r (OfAssembly a) g on = refl
      by_scope r (Inside l) g on = ap (λ o. on_some o (λ c. type_in ps c.file (Some c.row) r)) (on l (one_all (ends n next (id_at f l)) g))
      by_scope r Nowhere g on = refl

      by_row : (o : Option TypeRefRow) → Goes n (around_row f o) → On n m f → on_some o (λ r. in_scope ps f (resolve_ref n ps f) r r.scope) ≡ on_some o (λ r. in_scope ps f (resolve_ref m ps f) r r.scope)
      by_row None g on = refl
      by_row (Some r) g on = by_scope r r.scope g on

      by_file : (o : Option Assembly) → Goes n (around_file f k o) → On n m f → on_some o (λ p. on_some (slice_get p.refs k) (λ r. in_scope ps f (resolve_ref n ps f) r r.scope)) ≡ on_some o (λ p. on_some (slice_get p.refs k) (λ r. in_scope ps f (resolve_ref m ps f) r r.scope))
      by_file None g on = refl
      by_file (Some p) g on = by_row (slice_get p.refs k) g on

  -- and where it doesn't, nothing is named
  none : (n f k : ℕ) → ends n next (id_at f k) ≡ false → resolve_ref n ps f k ≡ None
  unfolding next
  none zero f k e = refl
  none (suc n) f k e = by_file (slice_get ps f) e (λ l t. none n f l t)
    where
      by_scope : (r : TypeRefRow) (s : Scope) → Fails n (around f s) → Ends n f → in_scope ps f (resolve_ref n ps f) r s ≡ None
      by_scope r (OfAssembly a) g on = absurd (cc g)
      by_scope r (Inside l) g on = ap (λ o. on_some o (λ c. type_in ps c.file (Some c.row) r)) (on l (one_none (ends n next (id_at f l)) g))
      by_scope r Nowhere g on = absurd (cc g)

      by_row : (o : Option TypeRefRow) → Fails n (around_row f o) → Ends n f → on_some o (λ r. in_scope ps f (resolve_ref n ps f) r r.scope) ≡ None
      by_row None g on = refl
      by_row (Some r) g on = by_scope r r.scope g on

      by_file : (o : Option Assembly) → Fails n (around_file f k o) → Ends n f → on_some o (λ p. on_some (slice_get p.refs k) (λ r. in_scope ps f (resolve_ref n ps f) r r.scope)) ≡ None
      by_file None g on = refl
      by_file (Some p) g on = by_row (slice_get p.refs k) g on

  abbrev nodes : List Id
  nodes = ids (λ (p : Assembly). p.refs) 0 ps

  outside : (c : Id) → (next c ≡ []) ⊎ ((n : ℕ) → Each (Same next n) nodes → Same next n c)
  unfolding next
  outside c = by_file (slice_get ps c.file) refl
    where
      by_row : (p : Assembly) → slice_get ps c.file ≡ Some p → (o : Option TypeRefRow) → slice_get p.refs c.row ≡ o → (around_file c.file c.row (slice_get ps c.file) ≡ []) ⊎ ((n : ℕ) → Each (Same next n) nodes → Same next n c)
      by_row p at None e = inl (ap (around_file c.file c.row) at ∙ ap (around_row c.file) e)
      by_row p at (Some r) e = inr (λ n h. let same : 0 + c.file ≡ c.file = omega arith in subst (λ f. Same next n (id_at f c.row)) same (of_id (λ (q : Assembly). q.refs) (Same next n) 0 ps h c.file c.row p r at e))

      by_file : (o : Option Assembly) → slice_get ps c.file ≡ o → (around_file c.file c.row (slice_get ps c.file) ≡ []) ⊎ ((n : ℕ) → Each (Same next n) nodes → Same next n c)
      by_file None e = inl (ap (around_file c.file c.row) e)
      by_file (Some p) e = by_row p e (slice_get p.refs c.row) refl

  pub same_references : (k m : ℕ) → reference_count ps < k → k ≤ m → (f n : ℕ) → resolve_ref k ps f n ≡ resolve_ref m ps f n
  same_references k m room grows f n = by (ends k next (id_at f n)) refl
    where
      few : length nodes < k
      few = let count = reference_ids 0 ps in omega (arith, count, room)

      alike : ends k next (id_at f n) ≡ ends m next (id_at f n)
      alike = enough next nodes outside k m (id_at f n) few (omega (arith, few, grows))

      by : (b : Bool) → ends k next (id_at f n) ≡ b → resolve_ref k ps f n ≡ resolve_ref m ps f n
      by true e = more k m f n grows e
      by false e = none k f n e ∙ sym (none m f n (sym alike ∙ e))
