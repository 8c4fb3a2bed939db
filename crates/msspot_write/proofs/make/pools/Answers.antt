use Rattle.std.proofs.Common.{◌≡◌, List, ℕ, [], ◌++◌, map, ap, ◌∙◌}
use Rattle.std.proofs.lemmas.List.{append-nil}
use Rattle.image_pools.specs.Pools.{Entry, pool}
use Rattle.image_form.specs.Whole.{name_entry}
use Rattle.msspot_write.specs.declared.parts.PartLiteral.{PartLiteral}
use Rattle.msspot_write.specs.Parts.{in_tables, tables, names, data_bytes, literal_of, strings_walk_of, signatures_walk_of}
use Rattle.msspot_write.specs.Starts.{added, joined}
use Rattle.msspot_write.proofs.EntryLaws.{joined_pool}
use Rattle.msspot_write.proofs.GatherLaws.{strings_made}
use Rattle.msspot_write.proofs.make.pools.Goals as goal

pub returns : goal.returns
returns c =
    let p = c.args.parts.now in
    let a = c.add.new.self in
    let b = c.add_tables.new.self in
    let d = c.add_literals.new.self in
    let texts : List PartLiteral → List Entry = map (λ (l : PartLiteral). literal_of l.text) in
    let first : a.entries.items ≡ added [] (name_entry p.name) =
    c.in_ok-add.ensures.entries
    ∙ ap (λ es. added es (name_entry c.as_slice.result.now)) c.new.ensures.entries
    ∙ ap (λ (t : List ℕ). added [] (name_entry t)) c.as_slice.ensures in
    let last : d.strings.entries.items ≡ joined b.strings.entries.items (texts p.literals) =
    c.in_ok-add_literals.ensures.strings ∙ ap (λ (ls : List PartLiteral). joined b.strings.entries.items (texts ls)) c.as_slice-2.ensures in
    let strings : d.strings.entries.items ≡ pool (strings_walk_of p) =
    strings_made (name_entry p.name) (in_tables names p tables) (texts p.literals) a.entries.items b.strings.entries.items d.strings.entries.items first c.in_ok-add_tables.ensures.strings last in
    let forms : d.signatures.entries.items ≡ pool (signatures_walk_of p) =
    c.in_ok-add_literals.ensures.signatures
    ∙ c.in_ok-add_tables.ensures.signatures
    ∙ ap (λ es. joined es (signatures_walk_of p)) c.new-2.ensures.entries
    ∙ joined_pool (signatures_walk_of p) in
    let bytes : d.data_pool.items ≡ in_tables data_bytes p tables =
    c.in_ok-add_literals.ensures.data_pool
    ∙ append-nil b.data_pool.items
    ∙ c.in_ok-add_tables.ensures.data_pool
    ∙ ap (λ bs. bs ++ in_tables data_bytes p tables) c.new-3.ensures.items in
    c.new-4.ensures ∙ (λ i. record { strings = strings i; signatures = forms i; data_pool = bytes i })
