-- The clauses of the methods of an image.
use Rattle.std.specs.Prelude.{◌≡◌, ℕ, ◌+◌, true, nat_eq, nat_lt, if◌then◌else◌, List, [], Option, Some, None, slice_get, slice_index, unwrap_or}
use Rattle.std.specs.List.{list_all}
use Rattle.std.specs.Option.{option_map}
use Rattle.assemblies.specs.Rows.{RawKind, RawCatch, RawFinally, RawOther, RawClause, RawCode, MethodRow, Assembly}
use Rattle.image_form.specs.Form.{bit, checked, clauses_in, has_room, is_known_kind}
use Rattle.tiny_members.specs.Rows.{token_seen}
use Rattle.tiny_clauses.specs.declared.clauses.ClauseKind.{ClauseKind}
use Rattle.tiny_clauses.specs.declared.clauses.ClauseKind.TheVariants.{Catch, Finally, Other}
use Rattle.tiny_clauses.specs.declared.clauses.ClauseRow.{ClauseRow}

abbrev pub kind_seen : ClauseKind → RawKind
kind_seen (Catch class) = RawCatch (token_seen class)
kind_seen Finally = RawFinally
kind_seen Other = RawOther

abbrev pub clause_seen : ClauseRow → RawClause
clause_seen c = record { kind = kind_seen c.kind; try_start = c.try_start; try_end = c.try_end; start = c.start; end = c.end }

-- those of the method of a row; none where it has no code, or isn't there
abbrev pub clauses_at : Assembly → ℕ → List RawClause
clauses_at p n = unwrap_or (option_map (λ (m : MethodRow). clauses_in m.code) (slice_get p.methods n)) []

-- the row of the k-th clause by the numbers of a method's row: flags, the start of the code, the first clause and how many
abbrev pub place_in : List ℕ → ℕ → Option ℕ
place_in r k =
    if bit 16 (slice_index r 2) then None
    else (if nat_eq (slice_index r 3) 65535 then None else checked (nat_lt k (slice_index r 8)) (slice_index r 7 + k))

-- each clause is a catch or a finally, and there is room for an exception that is caught
pub record IsKnown (c : RawCode) : Type 0 where
  pub kinds : list_all (λ (x : RawClause). is_known_kind x.kind) c.clauses ≡ true
  pub room : has_room c.max_stack c.clauses ≡ true

abbrev pub AreKnown : Assembly → Type 0
AreKnown p = (n : ℕ) (m : MethodRow) (c : RawCode) → slice_get p.methods n ≡ Some m → m.code ≡ Some c → IsKnown c
