-- What an index of members finds.
use Rattle.std.proofs.Common.{◌≡◌, ℕ, ◌+◌, ◌<◌, ◌^◌, Bool, true, List, Option, Some, None, refl, sym, ap, ◌∙◌, arith}
use Rattle.std.specs.Prelude.{slice_get, is_some, not}
use Rattle.std.specs.List.{position}
use Rattle.std.proofs.lemmas.Option.{slice_get_within}
use Rattle.machine.specs.Throw.{on_some}
use Rattle.assemblies.specs.Binding.{id_at}
use Rattle.type_names.proofs.IndexLaws.{none_past}
use Rattle.class_table.specs.declared.rows.ClassRow.{ClassRow}
use Rattle.class_table.specs.declared.rows.FileRows.{FileRows}
use Rattle.class_table.specs.declared.rows.ClassTable.{ClassTable}
use Rattle.member_search.specs.declared.sort.Sort.{Sort}
use Rattle.member_search.specs.declared.index.ClassPlaces.{ClassPlaces}
use Rattle.member_search.specs.Shown.{Shown, is_shown, members_in, first_in, count_in, own_members, own_in, own_member}
use Rattle.member_search.specs.Index.{FindsOwn, IsIndex}
use Rattle.member_search.proofs.SearchLaws.{place_within}

pub none_when : {A : Type 0} (o : Option A) (b : Bool) → is_some o ≡ not b → b ≡ true → o ≡ None
none_when None b e f = refl
none_when (Some x) b e f = cc (e ∙ ap not f)

module _ (sort : Sort) (t : ClassTable) (all : List (List ClassPlaces)) (index : IsIndex sort t all) (file row : ℕ) (wanted : Shown) where
  pub no_file : slice_get t.files.items file ≡ None → own_member sort t wanted (id_at file row) ≡ None
  no_file e = ap (λ o. on_some o (λ f. on_some (slice_get f.classes.items row) (own_in sort f wanted file))) e

  module _ (f : FileRows) (here : slice_get t.files.items file ≡ Some f) where
    of_file : own_member sort t wanted (id_at file row) ≡ on_some (slice_get f.classes.items row) (own_in sort f wanted file)
    of_file = ap (λ o. on_some o (λ g. on_some (slice_get g.classes.items row) (own_in sort g wanted file))) here

    pub no_row : slice_get f.classes.items row ≡ None → own_member sort t wanted (id_at file row) ≡ None
    no_row e = of_file ∙ ap (λ o. on_some o (own_in sort f wanted file)) e

    module _ (c : ClassRow) (there : slice_get f.classes.items row ≡ Some c) where
      pub own_is : own_member sort t wanted (id_at file row) ≡ own_in sort f wanted file c
      own_is = of_file ∙ ap (λ o. on_some o (own_in sort f wanted file)) there

      pub no_places : slice_get all file ≡ None → ⊥
      no_places e = let within = slice_get_within t.files.items file f here in let few = none_past all file e in let same = index.count in absurd (omega arith)

      module _ (ps : List ClassPlaces) (listed : slice_get all file ≡ Some ps) where
        pub no_place : slice_get ps row ≡ None → ⊥
        no_place e =
            let within = slice_get_within f.classes.items row c there in
            let few = none_past ps row e in
            let same = (index.each file f ps here listed).count in
            absurd (omega arith)

        pub finds_own : (p : ClassPlaces) → slice_get ps row ≡ Some p → FindsOwn sort f c p
        finds_own p e = (index.each file f ps here listed).each row c p there e

      pub row_fits : (p : ClassPlaces) (n : ℕ) → FindsOwn sort f c p → position (is_shown wanted) (own_members sort f c) ≡ Some n → p.first + n < 2 ^ 32
      row_fits p n own found =
          let within = place_within (is_shown wanted) (first_in sort c) (count_in sort c) (members_in sort f) n found in
          let few = index.few file f here in
          omega (arith, own.first, within, few)
