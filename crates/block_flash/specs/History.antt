-- The record of a flash, told by what its entries kept.
use Rattle.std.specs.Prelude.{reverse, ℕ, ◌-◌, List, [], ◌∷◌, ◌++◌, ◌≡◌, take, drop, slice_index, if◌then◌else◌}
use Rattle.flash_trait.specs.Flash.{Operation, start, span, covers, by_place}
use Rattle.flash_trait.specs.FlashCalls.{Done}
use Rattle.block_flash.specs.declared.change.Entry.{Entry}
use Rattle.block_flash.specs.Change.{logged_of}

-- the content with the bytes of the range put back
abbrev pub put_back : Operation → List ℕ → List ℕ → List ℕ
put_back op before content = by_place (λ place now. if covers op place then slice_index before (place - start op) else now) content

-- the content before an entry's operation
unfoldable pub undone : Entry → List ℕ → List ℕ
undone entry content = put_back (logged_of entry.operation) entry.before.items content

-- the operations, the newest first, from the content that they led to
abbrev pub history_back : List Entry → List ℕ → List Done
history_back [] content = []
history_back (entry ∷ entries) content =
    (record { operation = logged_of entry.operation; before = undone entry content }) ∷ history_back entries (undone entry content)

-- the operations with the content before each, the oldest first
abbrev pub history : List Entry → List ℕ → List Done
history entries content = reverse (history_back (reverse entries) content)

-- the log has one entry more: an operation, and what its range held
pub record Keeps (op : Operation) (content : List ℕ) (old new : List Entry) : Type 0 where
  pub entry : Entry
  pub operation : logged_of entry.operation ≡ op
  pub before : entry.before.items ≡ take (span op) (drop (start op) content)
  pub log : new ≡ old ++ entry ∷ []
