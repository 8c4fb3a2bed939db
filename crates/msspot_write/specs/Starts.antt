-- A pool as it is made: its entries in order, and for each kind where each text starts.
use Rattle.std.specs.Prelude.{◌≡◌, ℕ, ◌+◌, if◌then◌else◌, List, [], ◌∷◌, ◌++◌, Option, fold}
use Rattle.std.specs.List.{list_any}
use Rattle.std.specs.Ordering.{nat_cmp}
use Rattle.std.specs.Cmp.Lexicographic.{slice_cmp}
use Rattle.std.specs.BTreeMap.{BTreeMap, get_by}
use Rattle.std.specs.Global.{Vec}
use Rattle.image_pools.specs.Pools.{Entry, same_entry, entry_size}
use Rattle.msspot_write.specs.declared.entries.Kind.{Kind}
use Rattle.msspot_write.specs.declared.entries.Kind.TheVariants.{Name, Literal, Signature}
use Rattle.msspot_write.specs.declared.entries.Starts.{Starts}
use Rattle.msspot_write.specs.declared.entries.Pool.{Pool}
use Rattle.msspot_write.specs.Kinds.{entry_of}
use Rattle.msspot_write.specs.Parts.{found}

-- with an entry, unless it is there
abbrev pub added : List Entry → Entry → List Entry
added entries e = if list_any (same_entry e) entries then entries else entries ++ e ∷ []

abbrev pub joined : List Entry → List Entry → List Entry
joined entries walk = fold added entries walk

abbrev pub pool_size : List Entry → ℕ
pool_size [] = 0
pool_size (e ∷ es) = entry_size e.bytes + pool_size es

abbrev pub start_in : BTreeMap (Vec ℕ) ℕ → List ℕ → Option ℕ
start_in m text = get_by (λ k. slice_cmp nat_cmp text k.items) m

-- where a text of a kind starts
abbrev pub start_of : Starts → Kind → List ℕ → Option ℕ
start_of s Name text = start_in s.names text
start_of s Literal text = start_in s.literals text
start_of s Signature text = start_in s.signatures text

pub record Agrees (p : Pool) : Type 0 where
  pub size : p.size ≡ pool_size p.entries.items
  pub starts : (kind : Kind) (text : List ℕ) → start_of p.starts kind text ≡ found p.entries.items (entry_of kind text)
