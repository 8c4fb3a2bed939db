-- What is asked of the kept rows of an assembly so that their numbers are small: no table has too many of them, and what their tokens
-- don't tell is small in the file.
use Rattle.std.specs.Prelude.{◌≡◌, ℕ, ◌<◌, true, length, Some, slice_get}
use Rattle.kept_rows.specs.Select.{select}
use Rattle.assemblies.specs.Rows.{RawClause, RawCode, AssemblyRow, MethodRefRow, MethodRow, Assembly}
use Rattle.assemblies.specs.Chosen.{Choice, chosen}
use Rattle.assemblies.specs.Closed.{Each}
use Rattle.kept_closure.specs.Named.{InOption}
use Rattle.image_form.specs.Form.{Manner}
use Rattle.image_form.specs.Whole.{Methods, interfaces_of, clauses_of, datas_of}
use Rattle.chosen_image.specs.Spells.{chosen_methods}
use Rattle.fitting_parts.specs.Small.{IsSmall}

-- each row that is kept is one of its table
pub record AreThere (k : Choice) (p : Assembly) : Type 0 where
  pub assemblies : (n : ℕ) → k.assemblies n ≡ true → n < length p.assemblies
  pub refs : (n : ℕ) → k.refs n ≡ true → n < length p.refs
  pub types : (n : ℕ) → k.types n ≡ true → n < length p.types
  pub fields : (n : ℕ) → k.fields n ≡ true → n < length p.fields
  pub methods : (n : ℕ) → k.methods n ≡ true → n < length p.methods
  pub specs : (n : ℕ) → k.specs n ≡ true → n < length p.specs

-- and they are few, as the limits of the image's tables want it
pub record AreFew (k : Choice) (p : Assembly) (ms : Methods) : Type 0 where
  pub assemblies : length (select k.assemblies p.assemblies) < 16384
  pub refs : length (select k.refs p.refs) < 16384
  pub types : length (select k.types p.types) < 16384
  pub fields : length (select k.fields p.fields) < 16384
  pub methods : length (select k.methods p.methods) < 16384
  pub specs : length (select k.specs p.specs) < 16384
  pub interfaces : IsSmall (length (interfaces_of (chosen k p)))
  pub datas : IsSmall (length (datas_of (chosen k p)))
  pub clauses : IsSmall (length (clauses_of (chosen_methods k ms)))

-- ---- what a file tells by numbers: versions, lengths of signatures, room for the stack, and where clauses lie in the shortened code

module _ (place : ℕ → ℕ) where
  pub record ClauseLiesNear (c : RawClause) : Type 0 where
    pub try_start : IsSmall (place c.try_start)
    pub try_end : IsSmall (place c.try_end)
    pub start : IsSmall (place c.start)
    pub end : IsSmall (place c.end)

  pub record CodeNumbersSmall (c : RawCode) : Type 0 where
    pub locals : IsSmall (length c.locals)
    pub max_stack : IsSmall c.max_stack
    pub clauses : Each ClauseLiesNear c.clauses

  pub record MethodNumbersSmall (m : MethodRow) : Type 0 where
    pub parameters : IsSmall (length m.signature.parameters)
    pub code : InOption CodeNumbersSmall m.code

pub record FileNumbersSmall (k : Choice) (p : Assembly) (ms : Methods) : Type 0 where
  pub version : Each IsSmall p.version
  pub versions : Each (λ (a : AssemblyRow). Each IsSmall a.version) p.assemblies
  pub parameters : Each (λ (r : MethodRefRow). IsSmall (length r.signature.parameters)) p.method_refs
  pub methods : (n : ℕ) (x : Manner × MethodRow) → slice_get ms n ≡ Some x → k.methods n ≡ true → MethodNumbersSmall (k.short n) x.1
