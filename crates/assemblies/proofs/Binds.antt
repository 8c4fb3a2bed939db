-- A kept reference binds to the number of the kept type that it names.
use Rattle.std.proofs.Common.{◌≡◌, ℕ, zero, suc, ◌+◌, ◌≤◌, Bool, true, false, ◌&&◌, List, [], ◌∷◌, Option, Some, None, refl, sym, ap, ◌∙◌, arith}
use Rattle.std.specs.Prelude.{if◌then◌else◌, nat_eq, slice_get, slice_index}
use Rattle.std.specs.List.{position}
use Rattle.std.specs.Option.{option_map}
use Rattle.std.proofs.lemmas.Bool.{eqb-true, eq-eqb, ne_eqb}
use Rattle.std.proofs.lemmas.Option.{slice_get-map}
use Rattle.machine.specs.Data.{Id}
use Rattle.machine.specs.Texts.{same_text}
use Rattle.machine.specs.Throw.{on_some}
use Rattle.alike.proofs.Lists.{position_map}
use Rattle.kept_rows.specs.Select.{select, below, rows}
use Rattle.kept_rows.proofs.SelectLaws.{there, first, within_rows, agree, passes}
use Rattle.assemblies.specs.Rows.{TypeToken, TypeDef, TypeRef, TypeSpec, Scope, OfAssembly, Inside, Nowhere, TypeRefRow, TypeRow, Assembly}
use Rattle.assemblies.specs.Binding.{first_number, id_at, same_assembly, assembly_of, same_row, is_type, type_in, in_scope, resolve_ref, resolve}
use Rattle.assemblies.specs.Chosen.{Choice, token_to, scope_to, ref_to, type_row_to, chosen, chosen_set, number}
use Rattle.assemblies.specs.Closed.{KeptToken, Closed}

pub some_is : {A : Type 0} (x y : A) → Some x ≡ Some y → x ≡ y
some_is x y e = cc e

pub on_some_back : {A B : Type 0} (o : Option A) (f : A → Option B) (y : B) → on_some o f ≡ Some y → (x : A) × (o ≡ Some x) × (f x ≡ Some y)
on_some_back None f y e = absurd (cc e)
on_some_back (Some x) f y e = (x, refl, e)

pub map_back : {A B : Type 0} (g : A → B) (o : Option A) (y : B) → option_map g o ≡ Some y → (x : A) × (o ≡ Some x) × (g x ≡ y)
map_back g None y e = absurd (cc e)
map_back g (Some x) y e = (x, refl, cc e)

-- the assemblies of the chosen set
pub chosen_at : (keep : ℕ → Choice) (ps : List Assembly) (f : ℕ) → slice_get (chosen_set keep ps) f ≡ option_map (chosen (keep f)) (slice_get ps f)
chosen_at keep [] f = refl
chosen_at keep (p ∷ ps) zero = refl
chosen_at keep (p ∷ ps) (suc f) = chosen_at (λ g. keep (suc g)) ps f

-- numbers of kept rows are apart
below_apart : (keep : ℕ → Bool) (a b : ℕ) → keep a ≡ true → keep b ≡ true → nat_eq (below keep a) (below keep b) ≡ nat_eq a b
below_apart keep a b ka kb =
    let wa = within_rows keep (suc (a + b)) a (omega arith) ka in
    let wb = within_rows keep (suc (a + b)) b (omega arith) kb in
    go (nat_eq a b) refl (λ e. sym wa.1 ∙ ap (slice_index (rows keep (suc (a + b)))) e ∙ wb.1)
  where
    go : (t : Bool) → nat_eq a b ≡ t → (below keep a ≡ below keep b → a ≡ b) → nat_eq (below keep a) (below keep b) ≡ t
    go true e h = eq-eqb (below keep a) (below keep b) (ap (below keep) (eqb-true a b e))
    go false e h = ne_eqb (below keep a) (below keep b) (λ s. absurd (cc (sym e ∙ eq-eqb a b (h s))))

rows_alike : (keep : ℕ → Bool) (x y : Option ℕ) → ((n : ℕ) → x ≡ Some n → keep n ≡ true) → ((n : ℕ) → y ≡ Some n → keep n ≡ true) → same_row (option_map (below keep) x) (option_map (below keep) y) ≡ same_row x y
rows_alike keep None None h k = refl
rows_alike keep None (Some b) h k = refl
rows_alike keep (Some a) None h k = refl
rows_alike keep (Some a) (Some b) h k = below_apart keep a b (h a refl) (k b refl)

-- names and versions stay
pub set_position : (keep : ℕ → Choice) (test : Assembly → Bool) (ps : List Assembly) → ((k : Choice) (p : Assembly) → test (chosen k p) ≡ test p) → first_number test (chosen_set keep ps) ≡ first_number test ps
set_position keep test [] h = refl
set_position keep test (p ∷ ps) h =
    ap (λ b. if b then Some 0 else option_map suc (first_number test (chosen_set (λ f. keep (suc f)) ps))) (h (keep 0) p)
    ∙ ap (λ o. if test p then Some 0 else option_map suc o) (set_position (λ f. keep (suc f)) test ps h)

module _ (keep : ℕ → Choice) (ps : List Assembly) (size : ℕ) (closed : Closed size keep ps) where
  abbrev cs : List Assembly
  cs = chosen_set keep ps

  assembly_law : (f n g : ℕ) → (keep f).assemblies n ≡ true → assembly_of ps f n ≡ Some g → assembly_of cs f (below (keep f).assemblies n) ≡ Some g
  assembly_law f n g k e =
      let w = on_some_back (slice_get ps f) (λ (p : Assembly). on_some (slice_get p.assemblies n) (λ a. first_number (same_assembly a) ps)) g e in
      let v = on_some_back (slice_get w.0.assemblies n) (λ a. first_number (same_assembly a) ps) g w.2 in
      ap (λ o. on_some o (λ (p : Assembly). on_some (slice_get p.assemblies (below (keep f).assemblies n)) (λ a. first_number (same_assembly a) cs))) (chosen_at keep ps f ∙ ap (option_map (chosen (keep f))) w.1)
      ∙ ap (λ o. on_some o (λ a. first_number (same_assembly a) cs)) (there (keep f).assemblies w.0.assemblies n k ∙ v.1)
      ∙ set_position keep (same_assembly v.0) ps (λ k p. refl)
      ∙ v.2

  -- a type that is found by its names
  type_law : (f : ℕ) (outer : Option ℕ) (r : TypeRefRow) (c : Id) → ((n : ℕ) → outer ≡ Some n → (keep f).types n ≡ true) → (keep c.file).types c.row ≡ true → type_in ps f outer r ≡ Some c → type_in cs f (option_map (below (keep f).types) outer) (ref_to (keep f) r) ≡ Some (number keep c)
  type_law f outer r c inner kc e =
      let w = on_some_back (slice_get ps f) (λ (p : Assembly). option_map (id_at f) (position (is_type outer r) p.types)) c e in
      let v = map_back (id_at f) (position (is_type outer r) w.0.types) c w.2 in
      let kept : (keep f).types v.0 ≡ true = ap (λ (d : Id). (keep d.file).types d.row) v.2 ∙ kc in
      ap (λ o. on_some o (λ (p : Assembly). option_map (id_at f) (position (is_type (option_map (below (keep f).types) outer) r) p.types))) (chosen_at keep ps f ∙ ap (option_map (chosen (keep f))) w.1)
      ∙ ap (option_map (id_at f))
      (position_map (type_row_to (keep f)) (is_type (option_map (below (keep f).types) outer) r) (λ t. is_type (option_map (below (keep f).types) outer) r (type_row_to (keep f) t)) (select (keep f).types w.0.types) (λ t. refl)
      ∙ agree (keep f).types (λ t. is_type (option_map (below (keep f).types) outer) r (type_row_to (keep f) t)) (is_type outer r) w.0.types
      (λ n t at k. ap (λ b. b && (same_text r.namespace t.namespace && same_text r.name t.name)) (rows_alike (keep f).types outer t.enclosing inner (λ m q. (closed.outer f n w.0 t m w.1 at k q).0)))
      ∙ first (keep f).types (is_type outer r) w.0.types v.0 v.1 kept)
      ∙ ap (λ (d : Id). Some (number keep d)) v.2

  type_file : (f : ℕ) (outer : Option ℕ) (r : TypeRefRow) (c : Id) → type_in ps f outer r ≡ Some c → c.file ≡ f
  type_file f outer r c e =
      let w = on_some_back (slice_get ps f) (λ (p : Assembly). option_map (id_at f) (position (is_type outer r) p.types)) c e in
      let v = map_back (id_at f) (position (is_type outer r) w.0.types) c w.2 in
      sym (ap (λ (d : Id). d.file) v.2)

  -- a kept reference binds to the number of the type that it names
  pub ref_law : (j f n : ℕ) (c : Id) → (keep f).refs n ≡ true → resolve_ref j ps f n ≡ Some c → resolve_ref j cs f (below (keep f).refs n) ≡ Some (number keep c)
  ref_law zero f n c k e = absurd (cc e)
  ref_law (suc j) f n c k e =
      let w = on_some_back (slice_get ps f) (λ (p : Assembly). on_some (slice_get p.refs n) (λ r. in_scope ps f (resolve_ref j ps f) r r.scope)) c e in
      let v = on_some_back (slice_get w.0.refs n) (λ r. in_scope ps f (resolve_ref j ps f) r r.scope) c w.2 in
      ap (λ o. on_some o (λ (p : Assembly). on_some (slice_get p.refs (below (keep f).refs n)) (λ r. in_scope cs f (resolve_ref j cs f) r r.scope))) (chosen_at keep ps f ∙ ap (option_map (chosen (keep f))) w.1)
      ∙ ap (λ o. on_some o (λ r. in_scope cs f (resolve_ref j cs f) r r.scope)) (slice_get-map (ref_to (keep f)) (select (keep f).refs w.0.refs) (below (keep f).refs n) ∙ ap (option_map (ref_to (keep f))) (there (keep f).refs w.0.refs n k ∙ v.1))
      ∙ scoped w.0 v.0 w.1 v.1 v.0.scope refl v.2 (λ m o km. ref_law j f m o km)
    where
      defined : (keep c.file).types c.row ≡ true
      defined = closed.defined (suc j) f n c k e

      in_file : (g : ℕ) (outer : Option ℕ) (r : TypeRefRow) → ((m : ℕ) → outer ≡ Some m → (keep g).types m ≡ true) → type_in ps g outer r ≡ Some c → type_in cs g (option_map (below (keep g).types) outer) (ref_to (keep f) r) ≡ Some (number keep c)
      in_file g outer r inner t = type_law g outer r c inner defined t

      scoped : (p : Assembly) (r : TypeRefRow) → slice_get ps f ≡ Some p → slice_get p.refs n ≡ Some r → (s : Scope) → r.scope ≡ s → in_scope ps f (resolve_ref j ps f) r s ≡ Some c → ((m : ℕ) (o : Id) → (keep f).refs m ≡ true → resolve_ref j ps f m ≡ Some o → resolve_ref j cs f (below (keep f).refs m) ≡ Some (number keep o)) → in_scope cs f (resolve_ref j cs f) (ref_to (keep f) r) (scope_to (keep f) s) ≡ Some (number keep c)
      scoped p r at row (OfAssembly b) s t ih =
          let g = on_some_back (assembly_of ps f b) (λ g. type_in ps g None r) c t in
          ap (λ o. on_some o (λ g. type_in cs g None (ref_to (keep f) r))) (assembly_law f b g.0 (closed.of_assembly f n p r b at row k s) g.1)
          ∙ in_file g.0 None r (λ m q. absurd (cc q)) g.2
      scoped p r at row (Inside m) s t ih =
          let o = on_some_back (resolve_ref j ps f m) (λ (d : Id). type_in ps d.file (Some d.row) r) c t in
          let km = closed.inside f n p r m at row k s in
          ap (λ x. on_some x (λ (d : Id). type_in cs d.file (Some d.row) (ref_to (keep f) r))) (ih m o.0 km o.1)
          ∙ in_file o.0.file (Some o.0.row) r (λ q h. ap (keep o.0.file).types (sym (some_is o.0.row q h)) ∙ closed.defined j f m o.0 km o.1) o.2
      scoped p r at row Nowhere s t ih = absurd (cc t)

  -- what a reference names is there
  pub ref_there : (j f n : ℕ) (c : Id) → resolve_ref j ps f n ≡ Some c → (p : Assembly) × ((t : TypeRow) × (slice_get ps c.file ≡ Some p) × (slice_get p.types c.row ≡ Some t))
  ref_there zero f n c e = absurd (cc e)
  ref_there (suc j) f n c e =
      let w = on_some_back (slice_get ps f) (λ (p : Assembly). on_some (slice_get p.refs n) (λ r. in_scope ps f (resolve_ref j ps f) r r.scope)) c e in
      let v = on_some_back (slice_get w.0.refs n) (λ r. in_scope ps f (resolve_ref j ps f) r r.scope) c w.2 in
      scoped v.0 v.0.scope v.2
    where
      found : (g : ℕ) (outer : Option ℕ) (r : TypeRefRow) → type_in ps g outer r ≡ Some c → (p : Assembly) × ((t : TypeRow) × (slice_get ps c.file ≡ Some p) × (slice_get p.types c.row ≡ Some t))
      found g outer r t =
          let w = on_some_back (slice_get ps g) (λ (p : Assembly). option_map (id_at g) (position (is_type outer r) p.types)) c t in
          let v = map_back (id_at g) (position (is_type outer r) w.0.types) c w.2 in
          let x = passes (is_type outer r) w.0.types v.0 v.1 in
          (w.0, (x.0, ap (λ (d : Id). slice_get ps d.file) (sym v.2) ∙ w.1, ap (λ (d : Id). slice_get w.0.types d.row) (sym v.2) ∙ x.1))

      scoped : (r : TypeRefRow) (s : Scope) → in_scope ps f (resolve_ref j ps f) r s ≡ Some c → (p : Assembly) × ((t : TypeRow) × (slice_get ps c.file ≡ Some p) × (slice_get p.types c.row ≡ Some t))
      scoped r (OfAssembly b) t = let g = on_some_back (assembly_of ps f b) (λ g. type_in ps g None r) c t in found g.0 None r g.2
      scoped r (Inside m) t = let o = on_some_back (resolve_ref j ps f m) (λ (d : Id). type_in ps d.file (Some d.row) r) c t in found o.0.file (Some o.0.row) r o.2
      scoped r Nowhere t = absurd (cc t)

  -- with more scopes allowed
  pub more_scopes : (j l f n : ℕ) (c : Id) → j ≤ l → resolve_ref j cs f n ≡ Some c → resolve_ref l cs f n ≡ Some c
  more_scopes zero l f n c h e = absurd (cc e)
  more_scopes (suc j) zero f n c h e = absurd (omega (arith, h))
  more_scopes (suc j) (suc l) f n c h e =
      let w = on_some_back (slice_get cs f) (λ (p : Assembly). on_some (slice_get p.refs n) (λ r. in_scope cs f (resolve_ref j cs f) r r.scope)) c e in
      let v = on_some_back (slice_get w.0.refs n) (λ r. in_scope cs f (resolve_ref j cs f) r r.scope) c w.2 in
      ap (λ o. on_some o (λ (p : Assembly). on_some (slice_get p.refs n) (λ r. in_scope cs f (resolve_ref l cs f) r r.scope))) w.1
      ∙ ap (λ o. on_some o (λ r. in_scope cs f (resolve_ref l cs f) r r.scope)) v.1
      ∙ scoped v.0 v.0.scope v.2 (λ m o t. more_scopes j l f m o (omega (arith, h)) t)
    where
      scoped : (r : TypeRefRow) (s : Scope) → in_scope cs f (resolve_ref j cs f) r s ≡ Some c → ((m : ℕ) (o : Id) → resolve_ref j cs f m ≡ Some o → resolve_ref l cs f m ≡ Some o) → in_scope cs f (resolve_ref l cs f) r s ≡ Some c
      scoped r (OfAssembly b) t ih = t
      scoped r (Inside m) t ih =
          let o = on_some_back (resolve_ref j cs f m) (λ (d : Id). type_in cs d.file (Some d.row) r) c t in
          ap (λ x. on_some x (λ (d : Id). type_in cs d.file (Some d.row) r)) (ih m o.0 o.1) ∙ o.2
      scoped r Nowhere t ih = absurd (cc t)

  -- a token of a class
  pub token_law : (more f : ℕ) (t : TypeToken) (c : Id) → size ≤ more → KeptToken size keep ps f t → resolve size ps f t ≡ Some c → resolve more cs f (token_to (keep f) t) ≡ Some (number keep c)
  token_law more f (TypeRef n) c grows k e = more_scopes size more f (below (keep f).refs n) (number keep c) grows (ref_law size f n c k e)
  token_law more f (TypeDef n) c grows k e =
      let w = on_some_back (slice_get ps f) (λ (p : Assembly). option_map (λ t. id_at f n) (slice_get p.types n)) c e in
      let v = map_back (λ t. id_at f n) (slice_get w.0.types n) c w.2 in
      ap (λ o. on_some o (λ (p : Assembly). option_map (λ t. id_at f (below (keep f).types n)) (slice_get p.types (below (keep f).types n)))) (chosen_at keep ps f ∙ ap (option_map (chosen (keep f))) w.1)
      ∙ ap (option_map (λ t. id_at f (below (keep f).types n))) (slice_get-map (type_row_to (keep f)) (select (keep f).types w.0.types) (below (keep f).types n) ∙ ap (option_map (type_row_to (keep f))) (there (keep f).types w.0.types n k ∙ v.1))
      ∙ ap (λ (d : Id). Some (number keep d)) v.2
  token_law more f (TypeSpec n) c grows k e = absurd (cc e)

  -- the class of a token is there
  pub token_there : (f : ℕ) (t : TypeToken) (c : Id) → KeptToken size keep ps f t → resolve size ps f t ≡ Some c → ((keep c.file).types c.row ≡ true) × ((p : Assembly) × ((t : TypeRow) × (slice_get ps c.file ≡ Some p) × (slice_get p.types c.row ≡ Some t)))
  token_there f (TypeRef n) c k e = (closed.defined size f n c k e, ref_there size f n c e)
  token_there f (TypeDef n) c k e =
      let w = on_some_back (slice_get ps f) (λ (p : Assembly). option_map (λ t. id_at f n) (slice_get p.types n)) c e in
      let v = map_back (λ t. id_at f n) (slice_get w.0.types n) c w.2 in
      (ap (λ (d : Id). (keep d.file).types d.row) (sym v.2) ∙ k, (w.0, (v.0, ap (λ (d : Id). slice_get ps d.file) (sym v.2) ∙ w.1, ap (λ (d : Id). slice_get w.0.types d.row) (sym v.2) ∙ v.1)))
  token_there f (TypeSpec n) c k e = absurd (cc e)
