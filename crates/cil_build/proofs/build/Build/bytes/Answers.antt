use Rattle.std.proofs.Common.{ℕ, List, ◌≡◌, ◌≤◌, ◌∙◌, ap, sym, subst, length, get_or, arith}
use Rattle.cil_build.specs.Build.{asked_of}
use Rattle.cil_layout.specs.Asked.{Asked, weight_of}
use Rattle.cil_layout.specs.Layout.{built}
use Rattle.cil_layout.proofs.Stream.{row_weights, sizes_fit, length-metadata_by, whole}
use Rattle.cil_build.specs.declared.build.Build.TheInside.{Inside}
use Rattle.cil_build.proofs.build.Build.bytes.Goals as goal

light_at : (inside : Inside) (value : Asked) → asked_of inside ≡ value → weight_of value ≤ 4194304 → weight_of (asked_of inside) ≤ 4194304
light_at inside value is light = subst (λ (v : Asked). weight_of v ≤ 4194304) (sym is) light

pub heaps_of-requires : goal.heaps_of-requires
heaps_of-requires c = rw c.as_slice.ensures.value (omega (arith, row_weights (asked_of c.self.inside) (light_at c.self.inside c.args.self.now c.self.view_is c.requires)))

pub tables_stream-requires : goal.tables_stream-requires
tables_stream-requires c = rw (c.as_slice.ensures.value, c.as_str.ensures) (row_weights (asked_of c.self.inside) (light_at c.self.inside c.args.self.now c.self.view_is c.requires))

pub metadata_of-requires : goal.metadata_of-requires
metadata_of-requires c =
    let light = light_at c.self.inside c.args.self.now c.self.view_is c.requires in
    let strings = rw (c.as_str.ensures, c.as_slice.ensures.value) at c.in_ok-heaps.ensures.strings in
    let texts = rw c.as_slice.ensures.value at c.in_ok-heaps.ensures.texts in
    let blobs = rw c.as_slice.ensures.value at c.in_ok-heaps.ensures.blobs in
    let bodies = rw c.as_slice.ensures.value at c.in_ok-heaps.ensures.content in
    let tables = rw (c.as_str.ensures, c.as_slice.ensures.value) at c.in_ok-tables.ensures in
    rw c.as_slice-4.ensures.value (omega (arith, sizes_fit (asked_of c.self.inside) (λ t. get_or c.self.inside.counts t 0) (length c.as_slice-2.result.now) (length c.as_slice-3.result.now) c.in_ok-tables.tables.items c.in_ok-heaps.heaps.strings.items c.in_ok-heaps.heaps.texts.items c.in_ok-heaps.heaps.blobs.items c.in_ok-heaps.heaps.content.items light tables strings texts blobs bodies))

pub file_of-requires : goal.file_of-requires
file_of-requires c =
    let light = light_at c.self.inside c.args.self.now c.self.view_is c.requires in
    let strings = rw (c.as_str.ensures, c.as_slice.ensures.value) at c.in_ok-heaps.ensures.strings in
    let texts = rw c.as_slice.ensures.value at c.in_ok-heaps.ensures.texts in
    let blobs = rw c.as_slice.ensures.value at c.in_ok-heaps.ensures.blobs in
    let bodies = rw c.as_slice.ensures.value at c.in_ok-heaps.ensures.content in
    let tables = rw (c.as_str.ensures, c.as_slice.ensures.value) at c.in_ok-tables.ensures in
    let metadata = rw c.as_slice-4.ensures.value at c.in_ok-metadata.ensures in
    rw (c.as_slice-6.ensures.value, c.as_slice-5.ensures.value) (omega (
      arith,
      sizes_fit (asked_of c.self.inside) (λ t. get_or c.self.inside.counts t 0) (length c.as_slice-2.result.now) (length c.as_slice-3.result.now) c.in_ok-tables.tables.items c.in_ok-heaps.heaps.strings.items c.in_ok-heaps.heaps.texts.items c.in_ok-heaps.heaps.blobs.items c.in_ok-heaps.heaps.content.items light tables strings texts blobs bodies,
      ap (λ (xs : List ℕ). length xs) metadata,
      length-metadata_by c.in_ok-tables.tables.items c.in_ok-heaps.heaps.strings.items c.in_ok-heaps.heaps.texts.items c.in_ok-heaps.heaps.blobs.items,
    ))

pub returns : goal.returns
returns c =
    let strings = rw (c.as_str.ensures, c.as_slice.ensures.value) at c.in_ok-heaps.ensures.strings in
    let texts = rw c.as_slice.ensures.value at c.in_ok-heaps.ensures.texts in
    let blobs = rw c.as_slice.ensures.value at c.in_ok-heaps.ensures.blobs in
    let bodies = rw c.as_slice.ensures.value at c.in_ok-heaps.ensures.content in
    let tables = rw (c.as_str.ensures, c.as_slice.ensures.value) at c.in_ok-tables.ensures in
    let sized = rw (c.as_slice-2.ensures.value, c.as_slice-3.ensures.value) at tables in
    let metadata = rw c.as_slice-4.ensures.value at c.in_ok-metadata.ensures in
    let file = rw (c.as_slice-5.ensures.value, c.as_slice-6.ensures.value) at c.in_ok-file.ensures in
    whole (asked_of c.self.inside) c.self.inside.counts c.self.inside.weight c.self.inside.text_place c.in_ok-tables.tables.items c.in_ok-heaps.heaps.strings.items c.in_ok-heaps.heaps.texts.items c.in_ok-heaps.heaps.blobs.items c.in_ok-heaps.heaps.content.items c.in_ok-metadata.metadata.items c.in_ok-file.file.items
    c.self.invariant sized strings texts blobs bodies metadata file
    ∙ ap built c.self.view_is
