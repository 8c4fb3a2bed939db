use Rattle.std.proofs.Common.{◌≡◌, ◌+◌, map, sym, ap, ◌∙◌}
use Rattle.std.specs.Prelude.{Some, None, slice_get}
use Rattle.std.specs.List.{position}
use Rattle.std.specs.Option.{option_map}
use Rattle.std.proofs.lemmas.Option.{slice_get-map, slice_get_past}
use Rattle.assemblies.specs.Binding.{id_at}
use Rattle.type_names.proofs.IndexLaws.{stands_at}
use Rattle.member_keys.specs.Seen.{class_seen}
use Rattle.member_search.specs.Shown.{key_shown, is_shown, own_members, own_member}
use Rattle.member_search.proofs.FindLaws.{no_file, no_row, no_places, no_place, finds_own, own_is, row_fits}
use Rattle.member_search.proofs.index.MemberIndex.find_own.Goals as goal

pub returns-in_err-file : goal.returns-in_err-file
returns-in_err-file c =
    let key = key_shown c.args.key.now in
    let file = c.args.class.file in
    let row = c.args.class.row in
    let sort = c.self.inside.sort in
    let t = c.self.inside.table.now in
    let all = map (λ places. places.items) c.self.inside.files.items in
    let index = c.self.invariant.index in
    let look = ap (λ x. own_member x.sort x.table key (class_seen c.args.class)) (sym c.self.view_is) in
    ap (option_map class_seen) c.from_residual.ensures ∙ sym (look ∙ no_file sort t all index file row key (sym c.in_err-file.ensures))

pub returns-in_err-owner : goal.returns-in_err-owner
returns-in_err-owner c =
    let key = key_shown c.args.key.now in
    let file = c.args.class.file in
    let row = c.args.class.row in
    let sort = c.self.inside.sort in
    let t = c.self.inside.table.now in
    let all = map (λ places. places.items) c.self.inside.files.items in
    let index = c.self.invariant.index in
    let look = ap (λ x. own_member x.sort x.table key (class_seen c.args.class)) (sym c.self.view_is) in
    let f = c.in_ok-file.file.now in
    let here = sym c.in_ok-file.ensures in
    ap (option_map class_seen) c.from_residual-in_err-owner.ensures ∙ sym (look ∙ no_row sort t all index file row key f here (sym c.in_err-owner.ensures))

pub returns-in_err-get : goal.returns-in_err-get
returns-in_err-get c =
    let key = key_shown c.args.key.now in
    let file = c.args.class.file in
    let row = c.args.class.row in
    let sort = c.self.inside.sort in
    let t = c.self.inside.table.now in
    let all = map (λ places. places.items) c.self.inside.files.items in
    let index = c.self.invariant.index in
    let look = ap (λ x. own_member x.sort x.table key (class_seen c.args.class)) (sym c.self.view_is) in
    let f = c.in_ok-file.file.now in
    let here = sym c.in_ok-file.ensures in
    let owner = c.in_ok-owner.owner.now in
    let there = sym c.in_ok-owner.ensures in
    let gone : slice_get all file ≡ None = slice_get-map (λ places. places.items) c.self.inside.files.items file ∙ ap (option_map (λ places. places.items)) (ap (λ xs. slice_get xs file) (sym c.deref.ensures.value) ∙ slice_get_past c.deref.result.now file c.in_err-get.ensures.lookup.3) in
    absurd (no_places sort t all index file row key f here owner there gone)

pub returns-in_err-places : goal.returns-in_err-places
returns-in_err-places c =
    let key = key_shown c.args.key.now in
    let file = c.args.class.file in
    let row = c.args.class.row in
    let sort = c.self.inside.sort in
    let t = c.self.inside.table.now in
    let all = map (λ places. places.items) c.self.inside.files.items in
    let index = c.self.invariant.index in
    let look = ap (λ x. own_member x.sort x.table key (class_seen c.args.class)) (sym c.self.view_is) in
    let f = c.in_ok-file.file.now in
    let here = sym c.in_ok-file.ensures in
    let owner = c.in_ok-owner.owner.now in
    let there = sym c.in_ok-owner.ensures in
    let found = c.in_ok-get.ensures.lookup in
    let ps = c.in_ok-get.field-0.now.items in
    let listed : slice_get all file ≡ Some ps = slice_get-map (λ places. places.items) c.self.inside.files.items file ∙ ap (option_map (λ places. places.items)) (stands_at c.deref.result.now c.self.inside.files.items file c.in_ok-get.field-0.now c.deref.ensures.value found.3.0 found.1) in
    let gone : slice_get ps row ≡ None = ap (λ xs. slice_get xs row) (sym c.deref-2.ensures.value) ∙ slice_get_past c.deref-2.result.now row c.in_err-places.ensures.lookup.3 in
    absurd (no_place sort t all index file row key f here owner there ps listed gone)

pub own_place-requires : goal.own_place-requires
own_place-requires c =
    let key = key_shown c.args.key.now in
    let file = c.args.class.file in
    let row = c.args.class.row in
    let sort = c.self.inside.sort in
    let t = c.self.inside.table.now in
    let all = map (λ places. places.items) c.self.inside.files.items in
    let index = c.self.invariant.index in
    let look = ap (λ x. own_member x.sort x.table key (class_seen c.args.class)) (sym c.self.view_is) in
    let f = c.in_ok-file.file.now in
    let here = sym c.in_ok-file.ensures in
    let owner = c.in_ok-owner.owner.now in
    let there = sym c.in_ok-owner.ensures in
    let found = c.in_ok-get.ensures.lookup in
    let ps = c.in_ok-get.field-0.now.items in
    let listed : slice_get all file ≡ Some ps = slice_get-map (λ places. places.items) c.self.inside.files.items file ∙ ap (option_map (λ places. places.items)) (stands_at c.deref.result.now c.self.inside.files.items file c.in_ok-get.field-0.now c.deref.ensures.value found.3.0 found.1) in
    let inner = c.in_ok-places.ensures.lookup in
    let p = c.in_ok-places.places.now in
    let class : slice_get ps row ≡ Some p = stands_at c.deref-2.result.now ps row p c.deref-2.ensures.value inner.3.0 inner.1 in
    let own = finds_own sort t all index file row key f here owner there ps listed p class in
    own

pub returns-in_err-place : goal.returns-in_err-place
returns-in_err-place c =
    let key = key_shown c.args.key.now in
    let file = c.args.class.file in
    let row = c.args.class.row in
    let sort = c.self.inside.sort in
    let t = c.self.inside.table.now in
    let all = map (λ places. places.items) c.self.inside.files.items in
    let index = c.self.invariant.index in
    let look = ap (λ x. own_member x.sort x.table key (class_seen c.args.class)) (sym c.self.view_is) in
    let f = c.in_ok-file.file.now in
    let here = sym c.in_ok-file.ensures in
    let owner = c.in_ok-owner.owner.now in
    let there = sym c.in_ok-owner.ensures in
    let found = c.in_ok-get.ensures.lookup in
    let ps = c.in_ok-get.field-0.now.items in
    let listed : slice_get all file ≡ Some ps = slice_get-map (λ places. places.items) c.self.inside.files.items file ∙ ap (option_map (λ places. places.items)) (stands_at c.deref.result.now c.self.inside.files.items file c.in_ok-get.field-0.now c.deref.ensures.value found.3.0 found.1) in
    let inner = c.in_ok-places.ensures.lookup in
    let p = c.in_ok-places.places.now in
    let class : slice_get ps row ≡ Some p = stands_at c.deref-2.result.now ps row p c.deref-2.ensures.value inner.3.0 inner.1 in
    let own = finds_own sort t all index file row key f here owner there ps listed p class in
    ap (option_map class_seen) c.from_residual-in_err-place.ensures
    ∙ ap (option_map (λ n. id_at file (p.first + n))) c.in_err-place.ensures
    ∙ ap (λ k. option_map (λ n. id_at file (k + n)) (position (is_shown key) (own_members sort f owner))) own.first
    ∙ sym (look ∙ own_is sort t all index file row key f here owner there)

pub returns-in_err-row : goal.returns-in_err-row
returns-in_err-row c =
    let key = key_shown c.args.key.now in
    let file = c.args.class.file in
    let row = c.args.class.row in
    let sort = c.self.inside.sort in
    let t = c.self.inside.table.now in
    let all = map (λ places. places.items) c.self.inside.files.items in
    let index = c.self.invariant.index in
    let look = ap (λ x. own_member x.sort x.table key (class_seen c.args.class)) (sym c.self.view_is) in
    let f = c.in_ok-file.file.now in
    let here = sym c.in_ok-file.ensures in
    let owner = c.in_ok-owner.owner.now in
    let there = sym c.in_ok-owner.ensures in
    let found = c.in_ok-get.ensures.lookup in
    let ps = c.in_ok-get.field-0.now.items in
    let listed : slice_get all file ≡ Some ps = slice_get-map (λ places. places.items) c.self.inside.files.items file ∙ ap (option_map (λ places. places.items)) (stands_at c.deref.result.now c.self.inside.files.items file c.in_ok-get.field-0.now c.deref.ensures.value found.3.0 found.1) in
    let inner = c.in_ok-places.ensures.lookup in
    let p = c.in_ok-places.places.now in
    let class : slice_get ps row ≡ Some p = stands_at c.deref-2.result.now ps row p c.deref-2.ensures.value inner.3.0 inner.1 in
    let own = finds_own sort t all index file row key f here owner there ps listed p class in
    absurd (c.in_err-row.ensures (row_fits sort t all index file row key f here owner there p c.in_ok-place.place own (sym c.in_ok-place.ensures)))

pub returns : goal.returns
returns c =
    let key = key_shown c.args.key.now in
    let file = c.args.class.file in
    let row = c.args.class.row in
    let sort = c.self.inside.sort in
    let t = c.self.inside.table.now in
    let all = map (λ places. places.items) c.self.inside.files.items in
    let index = c.self.invariant.index in
    let look = ap (λ x. own_member x.sort x.table key (class_seen c.args.class)) (sym c.self.view_is) in
    let f = c.in_ok-file.file.now in
    let here = sym c.in_ok-file.ensures in
    let owner = c.in_ok-owner.owner.now in
    let there = sym c.in_ok-owner.ensures in
    let found = c.in_ok-get.ensures.lookup in
    let ps = c.in_ok-get.field-0.now.items in
    let listed : slice_get all file ≡ Some ps = slice_get-map (λ places. places.items) c.self.inside.files.items file ∙ ap (option_map (λ places. places.items)) (stands_at c.deref.result.now c.self.inside.files.items file c.in_ok-get.field-0.now c.deref.ensures.value found.3.0 found.1) in
    let inner = c.in_ok-places.ensures.lookup in
    let p = c.in_ok-places.places.now in
    let class : slice_get ps row ≡ Some p = stands_at c.deref-2.result.now ps row p c.deref-2.ensures.value inner.3.0 inner.1 in
    let own = finds_own sort t all index file row key f here owner there ps listed p class in
    ap (λ n. Some (id_at file n)) c.in_ok-row.ensures.1
    ∙ ap (option_map (λ n. id_at file (p.first + n))) c.in_ok-place.ensures
    ∙ ap (λ k. option_map (λ n. id_at file (k + n)) (position (is_shown key) (own_members sort f owner))) own.first
    ∙ sym (look ∙ own_is sort t all index file row key f here owner there)
