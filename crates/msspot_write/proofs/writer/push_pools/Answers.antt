use Rattle.std.proofs.Common.{◌≤◌, [], ◌++◌, length, subst, sym, ap, ◌∙◌, append_assoc}
use Rattle.std.specs.List.{flat_map}
use Rattle.std.proofs.lemmas.Result.{on_ok_weaker}
use Rattle.image_pools.specs.Pools.{pool_onto}
use Rattle.msspot_write.specs.Written.{codes_of}
use Rattle.msspot_write.proofs.OntoLaws.{pushed, pool_before}
use Rattle.msspot_write.proofs.writer.push_pools.Goals as goal

pub push_entries-requires : goal.push_entries-requires
push_entries-requires c = subst (λ es. length (pool_onto es []) ≤ 65535) (sym c.string_entries.ensures) c.requires.strings

pub push_entries-requires-2 : goal.push_entries-requires-2
push_entries-requires-2 c = subst (λ es. length (pool_onto es []) ≤ 65535) (sym c.signature_entries.ensures) c.requires.signatures

pub returns : goal.returns
returns c =
    let ps = c.args.pools.now in
    let codes = flat_map (λ c. c) (codes_of c.args.codes.now) in
    let a = c.push_entries.new.out.items in
    let b = c.push_entries-2.new.out.items in
    let d = c.push_codes.new.out.items in
    let rest = ps.data_pool in
    on_ok_weaker c.push_bytes.result
    (λ last.
    last
    ∙ ap (λ bs. d ++ bs) c.data_pool.ensures
    ∙ ap (λ ys. ys ++ rest) c.in_ok-push_codes.ensures
    ∙ append_assoc b codes rest
    ∙ pushed (pool_onto ps.signatures) (pool_before ps.signatures) a b (codes ++ rest) (c.in_ok-push_entries-2.ensures ∙ ap (λ es. a ++ pool_onto es []) c.signature_entries.ensures)
    ∙ pushed (pool_onto ps.strings) (pool_before ps.strings) c.args.out.now.items a (pool_onto ps.signatures (codes ++ rest)) (c.in_ok-push_entries.ensures ∙ ap (λ es. c.args.out.now.items ++ pool_onto es []) c.string_entries.ensures))
    c.push_bytes.ensures
