use Rattle.std.proofs.Common.{◌≡◌, ◌+◌, [], ◌++◌, replicate, ap, ◌∙◌, arith}
use Rattle.image_bytes.specs.Layout.{unpadded, padding}
use Rattle.image_form.specs.Whole.{name_entry}
use Rattle.image_pools.specs.Pools.{offset}
use Rattle.msspot_write.specs.Written.{codes_of}
use Rattle.msspot_write.proofs.ImageLaws.{are_small, head, image_pushed}
use Rattle.msspot_write.proofs.writer.image_bytes.Goals as goal

pub push_header-requires-clause-name : goal.push_header-requires-clause-name
push_header-requires-clause-name c =
    let small = are_small c.args.pools.now c.args.parts.now (codes_of c.args.codes.now) c.args.counts.now.bytes c.requires.pools c.requires.bytes c.requires.few_bytes in
    omega (arith, c.name-name.ensures.within, small.strings)

pub push_tables-requires-clause-strings : goal.push_tables-requires-clause-strings
push_tables-requires-clause-strings c = (are_small c.args.pools.now c.args.parts.now (codes_of c.args.codes.now) c.args.counts.now.bytes c.requires.pools c.requires.bytes c.requires.few_bytes).strings

pub push_tables-requires-clause-signatures : goal.push_tables-requires-clause-signatures
push_tables-requires-clause-signatures c = (are_small c.args.pools.now c.args.parts.now (codes_of c.args.codes.now) c.args.counts.now.bytes c.requires.pools c.requires.bytes c.requires.few_bytes).signatures

pub push_tables-requires-clause-codes : goal.push_tables-requires-clause-codes
push_tables-requires-clause-codes c = (are_small c.args.pools.now c.args.parts.now (codes_of c.args.codes.now) c.args.counts.now.bytes c.requires.pools c.requires.bytes c.requires.few_bytes).codes

pub push_tables-requires-clause-room : goal.push_tables-requires-clause-room
push_tables-requires-clause-room c = (are_small c.args.pools.now c.args.parts.now (codes_of c.args.codes.now) c.args.counts.now.bytes c.requires.pools c.requires.bytes c.requires.few_bytes).room

pub push_pools-requires-clause-strings : goal.push_pools-requires-clause-strings
push_pools-requires-clause-strings c = (are_small c.args.pools.now c.args.parts.now (codes_of c.args.codes.now) c.args.counts.now.bytes c.requires.pools c.requires.bytes c.requires.few_bytes).strings

pub push_pools-requires-clause-signatures : goal.push_pools-requires-clause-signatures
push_pools-requires-clause-signatures c = (are_small c.args.pools.now c.args.parts.now (codes_of c.args.codes.now) c.args.counts.now.bytes c.requires.pools c.requires.bytes c.requires.few_bytes).signatures

pub returns : goal.returns
returns c =
    let p = c.args.parts.now in
    let ps = c.args.pools.now in
    let cs = codes_of c.args.codes.now in
    let rows = c.args.counts.now.rows in
    let bytes = c.args.counts.now.bytes in
    let size = c.size-size.result in
    let whole = size + padding size in
    let name = c.name-name.result in
    let sized : size ≡ unpadded rows bytes = c.size-size.ensures.size in
    image_pushed p cs ps rows bytes whole name
    c.push_header.new.out.items c.push_tables.new.out.items c.push_pools.new.out.items c.push_zeros.new.out.items
    c.requires.pools c.requires.rows c.requires.bytes
    (ap (λ n. n + padding n) sized)
    (c.name-name.ensures.offset ∙ ap (λ t. offset ps.strings (name_entry t)) c.as_slice.ensures)
    (c.in_ok-push_header.ensures ∙ ap (λ ys. ys ++ head whole p.version name p.entry rows bytes []) c.in_ok-out.ensures.items)
    c.in_ok-push_tables.ensures
    c.in_ok-push_pools.ensures
    (c.in_ok-push_zeros.ensures ∙ ap (λ n. c.push_pools.new.out.items ++ replicate (padding n) 0) sized)
