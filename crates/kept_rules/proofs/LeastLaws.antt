-- The least set of rows that has the roots and is closed under the rules is what is needed.
use Rattle.std.proofs.Common.{◌≡◌, ℕ, ◌+◌, Bool, true, false, ◌&&◌, List, Some, refl}
use Rattle.std.specs.Prelude.{codes, slice_get}
use Rattle.std.specs.List.{position}
use Rattle.std.proofs.lemmas.Bool.{and_parts}
use Rattle.machine.specs.Data.{Id}
use Rattle.classes.specs.Classes.{FieldKind, InstanceField, StaticField, LiteralField, DataField}
use Rattle.classes.specs.Queries.{is_instance_kind, known_name, chain}
use Rattle.kept_rows.proofs.SelectLaws.{passes}
use Rattle.assemblies.specs.Rows.{TypeRow, FieldRow, MethodRow, Assembly}
use Rattle.assemblies.specs.Binding.{holds, classes_of}
use Rattle.assemblies.specs.Chosen.{Choice}
use Rattle.kept_closure.specs.Named.{Stands}
use Rattle.kept_closure.specs.Kept.{IsWithin, HasAll, is_literal, IsNeeded}
use Rattle.kept_rules.specs.Row.{Row, AssemblyRefAt, TypeRefAt, FieldRefAt, MethodRefAt, TypeAt, FieldAt, MethodAt, SpecAt, marks, names_of}
use Rattle.kept_rules.specs.Rules.{type_at, method_at, Root, Entry, BasicType, ArrayType, ThrownByCode, ExceptionType, root_row, RowRule, Names, TypeOfMethod, TypeOfField, Defined, FieldDefined, MethodDefined, InstanceFieldOf, InitialiserOf, ThrownByNative, TakesSlot, SlotTaken, FilledBy, first_row, then_row, IsRuled, IsLeast, MembersStand}
use Rattle.kept_rules.proofs.NameLaws.{Kept, each_at, names_kept}
use Rattle.kept_rules.proofs.RuleLaws.{ruled, keeps}
use Rattle.kept_rules.proofs.There.{range_one, TypeThere, MethodThere, ref_there, library_there, listed_there, virtual_there, method_there}

pub within_all : (keep all : ℕ → Choice) → ((r : Row) → marks keep r ≡ true → marks all r ≡ true) → IsWithin keep all
within_all keep all h = record {
  assemblies = λ f n. h (AssemblyRefAt f n);
  refs = λ f n. h (TypeRefAt f n);
  field_refs = λ f n. h (FieldRefAt f n);
  method_refs = λ f n. h (MethodRefAt f n);
  types = λ f n. h (TypeAt f n);
  fields = λ f n. h (FieldAt f n);
  methods = λ f n. h (MethodAt f n);
  specs = λ f n. h (SpecAt f n);
}

no_literal : (k : FieldKind) → is_instance_kind k ≡ true → is_literal k ≡ false
no_literal InstanceField e = refl
no_literal StaticField e = absurd (cc e)
no_literal LiteralField e = absurd (cc e)
no_literal (DataField bytes) e = absurd (cc e)

pub and_both : (a b : Bool) → a ≡ true → b ≡ true → (a && b) ≡ true
and_both true true e f = refl
and_both true false e f = absurd (cc f)
and_both false b e f = absurd (cc e)

module _ (size : ℕ) (ps : List Assembly) where
  -- where the row that a rule gives is a field by a reference, it is there and isn't literal
  abbrev pub FieldStands : RowRule size ps → Type 0
  FieldStands (FieldDefined f n c e) = (p : Assembly) × ((x : FieldRow) × Stands ps (λ q. q.fields) c.file c.row p x × (is_literal x.kind ≡ false))
  FieldStands _ = Unit {0}

  -- a set that has all rows has what each rule gives
  module _ (all : ℕ → Choice) (has : HasAll ps all) where
    typed : (c : Id) → TypeThere size ps c → Kept all (type_at c)
    typed c t = has.types c.file c.row t.0 t.1.0 t.1.1

    called : (c : Id) → MethodThere size ps c → Kept all (method_at c)
    called c m = has.methods c.file c.row m.0 m.1.0 m.1.1

    positioned : (f k : ℕ) (p : Assembly) (test : TypeRow → Bool) → slice_get ps f ≡ Some p → position test p.types ≡ Some k → Kept all (TypeAt f k)
    positioned f k p test at e = let w = passes test p.types k e in has.types f k p w.0 (at, w.1)

    pub spans : (r : RowRule size ps) → FieldStands r → Kept all (first_row size ps r) → Kept all (then_row size ps r)
    spans (Names a i c e) u k = each_at (Kept all) (names_of ps a) i c e (names_kept all ps has.named a k)
    spans (TypeOfMethod f n j p at e) u k = positioned f j p (λ (t : TypeRow). holds t.first_method t.method_count n) at e
    spans (TypeOfField f n j p at e) u k = positioned f j p (λ (t : TypeRow). holds t.first_field t.field_count n) at e
    spans (Defined f n c e) u k = typed c (ref_there size ps size f n c e)
    spans (FieldDefined f n c e) u k = has.fields c.file c.row u.0 u.1.0 u.1.1 u.1.2
    spans (MethodDefined f n c e) u k = called c (method_there size ps f n c e)
    spans (InstanceFieldOf f n i p t x s e is) u k = has.fields f (t.first_field + i) p x (s.0, range_one t.first_field t.field_count p.fields i x e) (no_literal x.kind is)
    spans (InitialiserOf f n i p t m s e is) u k = has.methods f (t.first_method + i) p m (s.0, range_one t.first_method t.method_count p.methods i m e)
    spans (ThrownByNative f n p m name x c s b t l) u k = typed c (library_there size ps (known_name x) c l)
    spans (TakesSlot c up m v o) u k = called m.id (listed_there size ps c o.own.0 m o.own.1)
    spans (SlotTaken c up m v o) u k = called v.id (virtual_there size ps m up v o.nearest)
    spans (FilledBy c i d m body o) u k = called body.id (virtual_there size ps m (chain (classes_of size ps) c) body o.found)

    pub rooted : (e : (f n : ℕ) (p : Assembly) → slice_get ps f ≡ Some p → p.entry ≡ Some n → (m : MethodRow) × (slice_get p.methods n ≡ Some m)) → (r : Root size ps) → Kept all (root_row size ps r)
    rooted e (Entry f n p at is) = let m = e f n p at is in has.methods f n p m.0 (at, m.1)
    rooted e (BasicType x name c b l) = typed c (library_there size ps name c l)
    rooted e (ArrayType c l) = typed c (library_there size ps (codes "Array") c l)
    rooted e (ThrownByCode k c b l) = typed c (library_there size ps (known_name k) c l)
    rooted e (ExceptionType c l) = typed c (library_there size ps (codes "Exception") c l)

  module _ (base : ℕ → Choice) (has : HasAll ps base) (stand : MembersStand size ps base) where
    pub stands : (r : RowRule size ps) → Kept base (first_row size ps r) → FieldStands r
    stands (Names a i c e) k = tt
    stands (TypeOfMethod f n j p at e) k = tt
    stands (TypeOfField f n j p at e) k = tt
    stands (Defined f n c e) k = tt
    stands (FieldDefined f n c e) k = stand.fields f n c k e
    stands (MethodDefined f n c e) k = tt
    stands (InstanceFieldOf f n i p t x s e is) k = tt
    stands (InitialiserOf f n i p t m s e is) k = tt
    stands (ThrownByNative f n p m name x c s b t l) k = tt
    stands (TakesSlot c up m v o) k = tt
    stands (SlotTaken c up m v o) k = tt
    stands (FilledBy c i d m body o) k = tt

    -- what a set that has all rows shares with the base is closed
    module _ (all : ℕ → Choice) (has_all : HasAll ps all) where
      abbrev shared : Row → Bool
      shared r = marks all r && marks base r

      shared_ruled : IsRuled size ps shared
      shared_ruled = record {
        roots = λ r. and_both (marks all (root_row size ps r)) (marks base (root_row size ps r)) (rooted all has_all stand.entry r) (rooted base has stand.entry r);
        rules = λ r k l.
            let first = and_parts (marks all (first_row size ps r)) (marks base (first_row size ps r)) k in
            let there = stands r first.1 in
            and_both (marks all (then_row size ps r)) (marks base (then_row size ps r)) (spans all has_all r there first.0) (spans base has r there first.1);
      }

    pub least_is_needed : (keep : ℕ → Choice) → IsLeast size ps (marks keep) → IsNeeded size ps keep
    least_is_needed keep l = record {
      closed = record {
        keeps = keeps size ps keep l.ruled;
        within = λ all has_all. within_all keep all (λ r k. (and_parts (marks all r) (marks base r) (l.least (shared all has_all) (shared_ruled all has_all) r k)).0);
      };
      least = λ other closed. within_all keep other (λ r k. l.least (marks other) (ruled size ps other closed.keeps) r k);
    }
