-- A closed set of rows has all that a choice of rows must hold together.
use Rattle.std.proofs.Common.{◌≡◌, ⊎_elim, ℕ, zero, suc, ◌+◌, ◌≤◌, Bool, true, false, List, [], ◌∷◌, Option, Some, None, refl, sym, ap, ◌∙◌, subst}
use Rattle.std.specs.Prelude.{if◌then◌else◌, slice_get, unwrap_or}
use Rattle.std.specs.Cmp.{both_ways}
use Rattle.std.specs.List.{find}
use Rattle.std.specs.Option.{option_map}
use Rattle.board_types.specs.declared.board.Known.{Known}
use Rattle.machine.specs.Data.{Id, id_eq}
use Rattle.machine.specs.Program.{Method}
use Rattle.machine.specs.Throw.{on_some}
use Rattle.machine_rename.specs.Rename.{Thrower}
use Rattle.classes.specs.Classes.{Signature, OwnMethod, Class, Classes}
use Rattle.classes.specs.Queries.{superclass_of, chain, chain_within, first_some, own_virtual, is_virtual_named, methods_of, method_at, is_interface, is_or_implements, known_name, library_class}
use Rattle.classes.specs.Listed.{method_with, no_code, program_of}
use Rattle.kept_rows.specs.Select.{select}
use Rattle.assemblies.specs.Rows.{MethodRow, Assembly}
use Rattle.assemblies.specs.Binding.{numbered, resolve, class_with, class_at, method_owner, classes_of, code_of, sources_of}
use Rattle.assemblies.specs.Chosen.{Choice, method_row_to, chosen, chosen_set}
use Rattle.assemblies.specs.Closed.{Closed}
use Rattle.assemblies.specs.Joined.{Joined}
use Rattle.assemblies.proofs.Binds.{on_some_back, map_back, chosen_at, token_there}
use Rattle.assemblies.proofs.Belong.{listed, owner}
use Rattle.assemblies.proofs.Numbered.{get_numbered}
use Rattle.kept_closure.specs.Kept.{HasAll, KeepsType, Overrides, Fills, IsClosed, Resolves, PlacesLead}
use Rattle.kept_closure.proofs.ClosedLaws.{closed_law}
use Rattle.kept_joined.specs.Judged.{Judged, PlacesRise}
use Rattle.kept_joined.proofs.Named.{virtual_same, search_same, find_index, first_index, first_of_name, alone_of_name}
use Rattle.kept_joined.proofs.Expands.{signature_expands}

-- a row among the kept ones is a kept row
selected_back : {A : Type 0} (keep : ℕ → Bool) (xs : List A) (i : ℕ) (x : A) → slice_get (select keep xs) i ≡ Some x → (n : ℕ) × ((keep n ≡ true) × (slice_get xs n ≡ Some x))
selected_back keep [] i x e = absurd (cc e)
selected_back {A} keep (y ∷ ys) i x e = go (keep 0) refl i e (selected_back (λ k. keep (suc k)) ys)
  where
    go : (b : Bool) → keep 0 ≡ b → (i : ℕ) → slice_get (if b then y ∷ select (λ k. keep (suc k)) ys else select (λ k. keep (suc k)) ys) i ≡ Some x → ((i : ℕ) (x : A) → slice_get (select (λ k. keep (suc k)) ys) i ≡ Some x → (n : ℕ) × ((keep (suc n) ≡ true) × (slice_get ys n ≡ Some x))) → (n : ℕ) × ((keep n ≡ true) × (slice_get (y ∷ ys) n ≡ Some x))
    go true k zero e ih = (0, (k, e))
    go true k (suc i) e ih = let w = ih i x e in (suc w.0, w.1)
    go false k i e ih = let w = ih i x e in (suc w.0, w.1)

module _ (size more : ℕ) (ps : List Assembly) (all keep : ℕ → Choice) (grows : size ≤ more) (has : HasAll ps all) (there : Resolves size ps all) (judged : Judged size ps) (closed : IsClosed size ps keep) (leads : PlacesLead ps keep) (rises : PlacesRise keep) where
  abbrev cs : List Assembly
  cs = chosen_set keep ps

  abbrev high : Classes
  high = classes_of size ps

  abbrev low : Classes
  low = classes_of more cs

  abbrev kept_method : OwnMethod → Bool
  kept_method m = (keep m.id.file).methods m.id.row

  whole : Closed size keep ps
  whole = closed_law size ps all keep has there closed leads

  -- ---- superclasses of a kept type are kept

  superclass_kept : (c s : Id) → KeepsType size ps keep c → superclass_of high c ≡ Some s → KeepsType size ps keep s
  superclass_kept c s k e =
      let w = on_some_back (class_at size ps c) (λ (z : Class). z.superclass) s e in
      let v = on_some_back (slice_get ps c.file) (λ (p : Assembly). option_map (class_with size ps c.file p) (slice_get p.types c.row)) w.0 w.1 in
      let t = map_back (class_with size ps c.file v.0) (slice_get v.0.types c.row) w.0 v.2 in
      let x = on_some_back t.0.extends (resolve size ps c.file) s (ap (λ (z : Class). z.superclass) t.2 ∙ w.2) in
      (token_there keep ps size whole c.file x.0 s (whole.extends c.file c.row v.0 t.0 x.0 v.1 t.1 k x.1).0 x.2).0

  chain_kept : (n : ℕ) (c d : Id) (j : ℕ) → KeepsType size ps keep c → slice_get (chain_within n high c) j ≡ Some d → KeepsType size ps keep d
  chain_kept zero c d zero k e = let same : c ≡ d = cc e in subst (λ z. KeepsType size ps keep z) same k
  chain_kept zero c d (suc j) k e = absurd (cc e)
  chain_kept (suc n) c d zero k e = let same : c ≡ d = cc e in subst (λ z. KeepsType size ps keep z) same k
  chain_kept (suc n) c d (suc j) k e = go (superclass_of high c) refl e (λ s p. chain_kept n s d j (superclass_kept c s k p))
    where
      go : (o : Option Id) → superclass_of high c ≡ o → slice_get (unwrap_or (option_map (chain_within n high) o) []) j ≡ Some d → ((s : Id) → superclass_of high c ≡ Some s → slice_get (chain_within n high s) j ≡ Some d → KeepsType size ps keep d) → KeepsType size ps keep d
      go None p e h = absurd (cc e)
      go (Some s) p e h = h s p e

  -- ---- slots

  slots : (m : OwnMethod) (c : Id) (y u : OwnMethod) (up : List Id) → KeepsType size ps keep c → chain high c ≡ c ∷ up → own_virtual high m c ≡ Some y → y.is_newslot ≡ false → first_some (own_virtual high m) up ≡ Some u → kept_method y ≡ kept_method u
  slots m c y u up k way e n near =
      let w = find_index (is_virtual_named m) (methods_of high c) y e in
      let v = virtual_same m y w.1.1 in
      let over : Overrides size ps c up y u = record { own = (w.0, w.1.0); is_virtual = v.0; takes = n; above = way; nearest = search_same high m y up v.1 ∙ near } in
      both_ways (kept_method y) (kept_method u) (closed.keeps.slot_taken c up y u over) (closed.keeps.takes_slot c up y u over k)

  listed_in : (m c : Id) (x : OwnMethod) → method_owner ps m ≡ Some c → method_at high m ≡ Some x → (i : ℕ) × (slice_get (methods_of high c) i ≡ Some x)
  listed_in m c x own at =
      let w = find_index (λ (z : OwnMethod). id_eq z.id m) (methods_of high c) x (sym (ap (λ o. on_some o (λ d. find (λ (z : OwnMethod). id_eq z.id m) (methods_of high d))) own) ∙ at) in
      (w.0, w.1.0)

  fills : (m : OwnMethod) (c i : Id) (y : OwnMethod) → KeepsType size ps keep c → method_owner ps m.id ≡ Some i → method_at high m.id ≡ Some m → kept_method m ≡ true → is_interface high i ≡ true → is_interface high c ≡ false → is_or_implements high c i ≡ true → first_some (own_virtual high m) (chain high c) ≡ Some y → kept_method y ≡ true
  fills m c i y k own at kept is isnt implements first =
      let w = first_index (own_virtual high m) (chain high c) y first in
      let v = find_index (is_virtual_named m) (methods_of high w.1.0) y w.1.2 in
      let fill : Fills size ps c i w.1.0 m y = record { interface = is; no_interface = isnt; implements = implements; asked = listed_in m.id i m own at; owner = owner size ps judged.rise w.1.0 v.0 y v.1.0; found = first } in
      closed.keeps.fills c i w.1.0 m y fill (chain_kept size c w.1.0 w.0 k w.1.1) kept

  -- ---- names

  signed : (c : Id) (i : ℕ) (x : OwnMethod) → slice_get (methods_of high c) i ≡ Some x → (s : Signature) × (x.signature ≡ Some s)
  signed c i x e =
      let l = listed size ps c i x e in
      let n = l.type.first_method + i in
      let named = there.named.methods c.file n l.assembly l.row (l.is_assembly, l.is_row) (has.methods c.file n l.assembly l.row (l.is_assembly, l.is_row)) in
      let s = signature_expands size ps c.file l.row.signature named.0 in
      (s.0, ap (λ (z : OwnMethod). z.signature) (sym l.is) ∙ s.1)

  firsts : (m c : Id) (x : OwnMethod) → method_owner ps m ≡ Some c → method_at high m ≡ Some x → x.is_virtual ≡ true → own_virtual high x c ≡ Some x
  firsts m c x own at v =
      let w = listed_in m c x own at in
      let s = signed c w.0 x w.1 in
      first_of_name (methods_of high c) w.0 x s.0 (judged.apart c) w.1 v s.1

  -- ---- classes of exceptions that natives throw

  thrown : (k : Known) (c : Id) → Thrower (program_of (sources_of more cs)) k → library_class high (known_name k) ≡ Some c → KeepsType size ps keep c
  thrown k c t e =
      let of_code = unwrap_or (code_of more cs t.id) no_code in
      let o = on_some_back (method_owner cs t.id) (λ (d : Id). on_some (method_at low t.id) (λ (m : OwnMethod). option_map (λ s. method_with low d m s of_code) m.signature)) t.method t.there in
      let m = on_some_back (method_at low t.id) (λ (m : OwnMethod). option_map (λ s. method_with low o.0 m s of_code) m.signature) t.method o.2 in
      let s = map_back (λ s. method_with low o.0 m.0 s of_code) m.0.signature t.method m.2 in
      let i = find_index (λ (z : OwnMethod). id_eq z.id t.id) (methods_of low o.0) m.0 (sym (ap (λ x. on_some x (λ d. find (λ (z : OwnMethod). id_eq z.id t.id) (methods_of low d))) o.1) ∙ m.1) in
      let l = listed more cs o.0 i.0 m.0 i.1.0 in
      let f = o.0.file in
      let p = map_back (chosen (keep f)) (slice_get ps f) l.assembly (sym (chosen_at keep ps f) ∙ l.is_assembly) in
      let n = selected_back (keep f).methods (numbered (method_row_to (keep f)) 0 p.0.methods) (l.type.first_method + i.0) l.row (ap (λ (q : Assembly). slice_get q.methods (l.type.first_method + i.0)) p.2 ∙ l.is_row) in
      let x = map_back (method_row_to (keep f) (0 + n.0)) (slice_get p.0.methods n.0) l.row (sym (get_numbered (method_row_to (keep f)) 0 n.0 p.0.methods) ∙ n.1.1) in
      closed.keeps.thrown f n.0 p.0 x.0 t.name k c (p.1, x.1) n.1.0
      (ap (λ (z : MethodRow). z.body) x.2 ∙ ap (λ (z : OwnMethod). z.body) l.is ∙ ap (λ (z : Method). z.body) s.2 ∙ t.is) t.throwing e

  pub joined : Joined size more keep ps
  joined =
      record {
        closed = whole;
        grows = grows;
        ups = judged.ups;
        parents = judged.parents;
        outers = judged.outers;
        firsts = firsts;
        alone = λ m c y e k. alone_of_name kept_method m y (methods_of high c) (judged.apart c) e k;
        slots = slots;
        fills = fills;
        basics = closed.keeps.roots.basics;
        array = closed.keeps.roots.array;
        exception = closed.keeps.roots.exception;
        asked = λ k c a e. ⊎_elim (λ by. closed.keeps.roots.exceptions k c by e) (λ t. thrown k c t e) a;
        begin = rises.begin;
        places = rises.order;
      }
