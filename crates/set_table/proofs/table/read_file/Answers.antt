use Rattle.std.proofs.Common.{◌≡◌, sym, ◌∙◌, subst}
use Rattle.set_names.specs.Names.{seen_all}
use Rattle.set_names.specs.Resolved.{AreTypes}
use Rattle.tiny_rows.specs.Rows.{rows_seen}
use Rattle.set_table.specs.Whole.{AreRows}
use Rattle.set_table.proofs.SubjectLaws.{image_there, tokens_are}
use Rattle.set_table.proofs.table.read_file.Goals as goal

pub read_rows-requires : goal.read_rows-requires
read_rows-requires c =
    let images = c.args.names.now in
    record {
      here = image_there images c.args.file c.in-Some.image.now c.in-Some.ensures;
      tokens =
          tokens_are images c.in-Some.image.now c.has_rows.ensures (record { file = c.args.file; types = c.from.result; references = c.deref.result }) c.in-Some.ensures (c.from.ensures ∙ c.type_count.ensures)
          (subst (AreTypes (seen_all images) c.args.file) (sym c.deref.ensures.value) c.in_ok-references.ensures);
    }

pub returns : goal.returns
returns c = λ p e.
    let same : rows_seen c.in-Some.image.now ≡ p = cc (sym (image_there c.args.names.now c.args.file c.in-Some.image.now c.in-Some.ensures) ∙ e) in
    subst (λ q. AreRows (seen_all c.args.names.now) c.args.file q c.in_ok-rows.rows) same c.in_ok-rows.ensures
