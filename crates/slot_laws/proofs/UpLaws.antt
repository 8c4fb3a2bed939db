-- The rules on classes and methods give what the way up from a class stands on.
use Rattle.std.proofs.Common.{◌≡◌, ⊎_elim, ℕ, zero, suc, ◌+◌, ◌≤◌, Bool, true, false, List, Some, None, refl, ap, ◌∙◌, subst, arith}
use Rattle.std.specs.Prelude.{◌&&◌, not, is_some, slice_get, unwrap_or}
use Rattle.std.specs.List.{list_all}
use Rattle.std.specs.Option.{option_map}
use Rattle.std.proofs.lemmas.Bool.{and_parts, both_ways, not-true}
use Rattle.file_tables.specs.File.{FilePart}
use Rattle.machine.specs.Data.{Id}
use Rattle.machine_typed.specs.Typing.{has_body}
use Rattle.machine_typed.proofs.Heaps.{some_inv}
use Rattle.classes.specs.Classes.{Class, Classes, OwnMethod}
use Rattle.classes.specs.Listed.{is_constructor}
use Rattle.classes.specs.Queries.{above, ends, flag_eq, interfaces_of, is_interface, listed, methods_of, parents, superclass_of}
use Rattle.class_rules.specs.Rules.{constructor_fits, extends_well, implements_well, initialiser_fits, is_initialiser_name, is_native, is_user, may_be_extended, method_stands_well, only_if, superclass_fits}
use Rattle.class_rules.proofs.Kept.{all_by, ends_more, listed_inv, part_of, split_list}
use Rattle.class_rules.proofs.Ways.{all_at}
use Rattle.world_rows.specs.Read.{TypesStand}
use Rattle.world_rows.specs.World.{type_count, size_of, rows_alone, ecma_sources}
use Rattle.class_slots.specs.Added.{GoUp}
use Rattle.verdict_rules.specs.Verdict.{profile}
use Rattle.verdict_laws.proofs.Keeps.{extends, implements, methods_stand}
use Rattle.slot_laws.proofs.StandLaws.{owned, types_kept, members_kept}

module _ (n : ℕ) (cs : Classes) (extending : (c : Id) (k : Class) → cs.class c ≡ Some k → extends_well n cs c k ≡ true) (implementing : (c : Id) (k : Class) → cs.class c ≡ Some k → implements_well n cs k ≡ true) where
  -- ---- superclasses

  chain_ends : (c : Id) (k : Class) → cs.class c ≡ Some k → ends n (above cs) c ≡ true
  chain_ends c k there = (and_parts (superclass_fits cs c k k.superclass) (ends n (above cs) c) (extending c k there)).1

  no_super : (c d : Id) → superclass_of cs c ≡ Some d → is_interface cs c ≡ false
  no_super c d e =
      let s = some_inv (cs.class c) (λ k. k.superclass) d e in
      let fits = (and_parts (superclass_fits cs c s.0 s.0.superclass) (ends n (above cs) c) (extending c s.0 s.1)).0 in
      let low : superclass_fits cs c s.0 (Some d) ≡ true = subst (λ o. superclass_fits cs c s.0 o ≡ true) s.2 fits in
      ap (λ o. unwrap_or (option_map (λ (k : Class). k.is_interface) o) false) s.1
      ∙ not-true s.0.is_interface (and_parts (not s.0.is_interface) (is_some (cs.class d) && (not (is_interface cs d) && only_if (is_user c) (may_be_extended cs d))) low).0

  -- ---- interfaces

  implemented : (c d : Id) (i : ℕ) → slice_get (interfaces_of cs c) i ≡ Some d → (is_interface cs d ≡ true) × (ends n (interfaces_of cs) d ≡ true)
  implemented c d i e =
      let p = part_of (cs.class c) (λ k. k.interfaces) i d e in
      and_parts (is_interface cs d) (ends n (interfaces_of cs) d) (all_at (λ j. is_interface cs j && ends n (interfaces_of cs) j) p.0.interfaces i d (implementing c p.0 p.1) p.2)

  -- ways from a class: each goes up the superclasses, and then by interfaces alone
  each_parent : (m : ℕ) (c : Id) → ((d : Id) → superclass_of cs c ≡ Some d → ends m (parents cs) d ≡ true) → ((d : Id) (i : ℕ) → slice_get (interfaces_of cs c) i ≡ Some d → ends m (parents cs) d ≡ true) → list_all (ends m (parents cs)) (parents cs c) ≡ true
  each_parent m c by_super by_interface =
      all_by (ends m (parents cs)) (parents cs c)
      (λ i d e. ⊎_elim (λ first. by_super d (listed_inv (superclass_of cs c) i d first)) (λ later. by_interface d later.0 later.1) (split_list (above cs c) (interfaces_of cs c) i d e))

  interface_ends : (m : ℕ) (c : Id) → is_interface cs c ≡ true → ends m (interfaces_of cs) c ≡ true → ends m (parents cs) c ≡ true
  interface_ends zero c i e = e
  interface_ends (suc m) c i e =
      each_parent m c (λ d s. absurd (both_ways (is_interface cs c) (no_super c d s) i))
      (λ d j h. interface_ends m d (implemented c d j h).0 (all_at (ends m (interfaces_of cs)) (interfaces_of cs c) j d e h))

  ways_end : (m q : ℕ) (c : Id) → ends m (above cs) c ≡ true → m + n ≤ q → ends q (parents cs) c ≡ true
  ways_end zero q c e room = absurd (cc e)
  ways_end (suc m) zero c e room = absurd (omega (arith, room))
  ways_end (suc m) (suc q) c e room =
      each_parent q c (λ d s. ways_end m q d (all_at (ends m (above cs)) (above cs c) 0 d e (ap (λ o. slice_get (listed o) 0) s)) (omega (arith, room)))
      (λ d j h. let i = implemented c d j h in ends_more (parents cs) n q d (interface_ends n d i.0 i.1) (omega (arith, room)))

-- ---- methods

static_apart : (s v : Bool) → not (s && v) ≡ true → v ≡ true → s ≡ false
static_apart false v e h = refl
static_apart true true e h = absurd (cc e)
static_apart true false e h = absurd (cc h)

not_both : (cs : Classes) → ((c : Id) (k : Class) → cs.class c ≡ Some k → list_all (method_stands_well cs c k) k.methods ≡ true) → (c : Id) (i : ℕ) (m : OwnMethod) → slice_get (methods_of cs c) i ≡ Some m → m.is_virtual ≡ true → m.is_static ≡ false
not_both cs stand c i m e virtual =
    let p = part_of (cs.class c) (λ k. k.methods) i m e in
    let well = all_at (method_stands_well cs c p.0) p.0.methods i m (stand c p.0 p.1) p.2 in
    let rest =
    only_if m.is_abstract m.is_virtual
    && (only_if m.is_abstract p.0.is_abstract
    && (flag_eq (has_body m.body) (not m.is_abstract) && (only_if (is_constructor m) (constructor_fits cs c p.0 m) && only_if (is_initialiser_name m) (initialiser_fits m)))) in
    let apart = (and_parts (not (m.is_static && m.is_virtual)) rest (and_parts (not (is_user c && is_native m.body)) (not (m.is_static && m.is_virtual) && rest) well).1).0 in
    static_apart m.is_static m.is_virtual apart virtual

-- ---- files

pub classes_go_up : (files : List FilePart) → TypesStand files → profile files ≡ None → GoUp (ecma_sources files).classes
classes_go_up files stand kept =
    let cs = (ecma_sources files).classes in
    let n = type_count (rows_alone files) in
    let size = size_of (rows_alone files) in
    let types = types_kept files kept in
    let room : n + n ≤ size = omega arith in
    let low : n ≤ size = omega arith in
    record {
      chains = λ c k there. ends_more (above cs) n size c (chain_ends n cs (extends files types) (implements files types) c k there) low;
      ways = λ c k there. ways_end n cs (extends files types) (implements files types) n size c (chain_ends n cs (extends files types) (implements files types) c k there) room;
      no_super = no_super n cs (extends files types) (implements files types);
      virtual = not_both cs (methods_stand files types (members_kept files kept) (λ c i m e. (owned files stand c i m e).0));
    }
