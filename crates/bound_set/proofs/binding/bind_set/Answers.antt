use Rattle.std.proofs.Common.{◌≡◌, map, length, sym, ap, ◌∙◌, arith}
use Rattle.tiny_rows.specs.Rows.{rows_seen}
use Rattle.set_names.specs.Names.{seen_all}
use Rattle.board_model.specs.Bound.{set_rows}
use Rattle.boot_scan.specs.Sets.{images_in}
use Rattle.class_table.specs.Seen.{classes_seen}
use Rattle.bound_set.proofs.StandLaws.{sized_of, parts_count}
use Rattle.bound_set.proofs.LibraryLaws.{bound_of}
use Rattle.bound_set.proofs.binding.bind_set.Goals as goal

pub bind_references-requires : goal.bind_references-requires
bind_references-requires c =
    let many = parts_count c.args.flash.now c.args.set.now (sized_of c.args.flash.now c.args.set.now c.requires.found c.is_sized.ensures.places c.is_sized.ensures.sizes) in
    let same = ap length c.requires.names in
    let few = c.requires.found.inside.few in
    omega (arith, many, same, few)

pub read_table-requires : goal.read_table-requires
read_table-requires c =
    let many = parts_count c.args.flash.now c.args.set.now (sized_of c.args.flash.now c.args.set.now c.requires.found c.is_sized.ensures.places c.is_sized.ensures.sizes) in
    let same = ap length c.requires.names in
    let few = c.requires.found.inside.few in
    omega (arith, many, same, few)

pub returns-clause-bound : goal.returns-clause-bound
returns-clause-bound c =
    let images = images_in c.args.flash.now c.args.set.now in
    let same : set_rows images ≡ seen_all c.args.names.now = c.sets_have_the_rows_of_their_parts.ensures images ∙ sym (ap (map rows_seen) c.requires.names) in
    bound_of images (seen_all c.args.names.now) c.in_ok-places.places.items c.in_ok-bindings.bindings.files.items c.in_ok-known.known c.in_ok-basic.basic (classes_seen c.in_ok-table.table) same c.in_ok-table.ensures.classes c.in_ok-places.ensures
    c.in_ok-bindings.ensures.bound c.in_ok-known.ensures c.in_ok-basic.ensures c.in_ok-bindings.ensures.whole.0 c.in_ok-bindings.ensures.whole.1
