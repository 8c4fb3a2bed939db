-- A choice keeps what its rows ask for where it has the roots and is closed under the rules, and only there.
use Rattle.std.proofs.Common.{ℕ, List}
use Rattle.assemblies.specs.Rows.{Assembly}
use Rattle.assemblies.specs.Chosen.{Choice}
use Rattle.kept_closure.specs.Kept.{Keeps}
use Rattle.kept_rules.specs.Row.{marks, names_of}
use Rattle.kept_rules.specs.Rules.{Root, Entry, BasicType, ArrayType, ThrownByCode, ExceptionType, root_row, RowRule, Names, TypeOfMethod, TypeOfField, Defined, FieldDefined, MethodDefined, InstanceFieldOf, InitialiserOf, ThrownByNative, TakesSlot, SlotTaken, FilledBy, first_row, second_row, then_row, IsRuled}
use Rattle.kept_rules.proofs.NameLaws.{Kept, each_at, each_of, names_kept, has_named}

module _ (size : ℕ) (ps : List Assembly) (keep : ℕ → Choice) where
  module _ (h : Keeps size ps keep) where
    roots : (r : Root size ps) → Kept keep (root_row size ps r)
    roots (Entry f n p at e) = h.roots.entry f n p at e
    roots (BasicType e name c b l) = h.roots.basics e name c b l
    roots (ArrayType c l) = h.roots.array c l
    roots (ThrownByCode k c b l) = h.roots.exceptions k c b l
    roots (ExceptionType c l) = h.roots.exception c l

    rules : (r : RowRule size ps) → Kept keep (first_row size ps r) → Kept keep (second_row size ps r) → Kept keep (then_row size ps r)
    rules (Names a i c e) k l = each_at (Kept keep) (names_of ps a) i c e (names_kept keep ps h.named a k)
    rules (TypeOfMethod f n j p at e) k l = h.method_type f n j p at k e
    rules (TypeOfField f n j p at e) k l = h.field_type f n j p at k e
    rules (Defined f n c e) k l = h.defined f n c k e
    rules (FieldDefined f n c e) k l = h.field_defined f n c k e
    rules (MethodDefined f n c e) k l = h.method_defined f n c k e
    rules (InstanceFieldOf f n i p t x s e is) k l = h.instance f n i p t x s k e is
    rules (InitialiserOf f n i p t m s e is) k l = h.initialiser f n i p t m s k e is
    rules (ThrownByNative f n p m name x c s b t is) k l = h.thrown f n p m name x c s k b t is
    rules (TakesSlot c up m u o) k l = h.takes_slot c up m u o k l
    rules (SlotTaken c up m u o) k l = h.slot_taken c up m u o k
    rules (FilledBy c i d m body o) k l = h.fills c i d m body o k l

    pub ruled : IsRuled size ps (marks keep)
    ruled = record { roots = roots; rules = rules }

  module _ (h : IsRuled size ps (marks keep)) where
    pub keeps : Keeps size ps keep
    keeps = record {
      roots = record {
        entry = λ f n p at e. h.roots (Entry f n p at e);
        basics = λ e name c b l. h.roots (BasicType e name c b l);
        array = λ c l. h.roots (ArrayType c l);
        exceptions = λ k c b l. h.roots (ThrownByCode k c b l);
        exception = λ c l. h.roots (ExceptionType c l);
      };
      named = has_named keep ps (λ a k. each_of (Kept keep) (names_of ps a) (λ i r e. h.rules (Names a i r e) k k));
      method_type = λ f n j p at k e. h.rules (TypeOfMethod f n j p at e) k k;
      field_type = λ f n j p at k e. h.rules (TypeOfField f n j p at e) k k;
      defined = λ f n c k e. h.rules (Defined f n c e) k k;
      field_defined = λ f n c k e. h.rules (FieldDefined f n c e) k k;
      method_defined = λ f n c k e. h.rules (MethodDefined f n c e) k k;
      instance = λ f n i p t x s k e is. h.rules (InstanceFieldOf f n i p t x s e is) k k;
      initialiser = λ f n i p t m s k e is. h.rules (InitialiserOf f n i p t m s e is) k k;
      thrown = λ f n p m name x c s k b t l. h.rules (ThrownByNative f n p m name x c s b t l) k k;
      takes_slot = λ c up m u o k l. h.rules (TakesSlot c up m u o) k l;
      slot_taken = λ c up m u o k. h.rules (SlotTaken c up m u o) k k;
      fills = λ c i d m body o k l. h.rules (FilledBy c i d m body o) k l;
    }
