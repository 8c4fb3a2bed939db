use Rattle.std.proofs.Common.{◌≡◌, sym, ◌∙◌, subst}
use Rattle.set_names.specs.Names.{seen_all}
use Rattle.set_names.specs.Resolved.{AreTypes}
use Rattle.set_table.proofs.SubjectLaws.{image_there, tokens_are}
use Rattle.set_binding.proofs.ColumnLaws.{types_named}
use Rattle.set_binding.proofs.file.bind_file.Goals as goal

pub bind_assemblies-requires : goal.bind_assemblies-requires
bind_assemblies-requires c = sym c.in-Some.ensures

pub bind_types-requires : goal.bind_types-requires
bind_types-requires c = sym c.in-Some.ensures

pub bind_members-requires : goal.bind_members-requires
bind_members-requires c =
    let images = c.args.names.now in
    record {
      subject = record {
        here = image_there images c.args.file c.in-Some.image.now c.in-Some.ensures;
        tokens =
            tokens_are images c.in-Some.image.now c.has_rows.ensures (record { file = c.args.file; types = c.from.result; references = c.deref.result }) c.in-Some.ensures (c.from.ensures ∙ c.type_count.ensures)
            (subst (AreTypes (seen_all images) c.args.file) (sym c.deref.ensures.value) c.in_ok-types.ensures.types);
      };
      members = c.requires.members;
    }

pub returns : goal.returns
returns c =
    let images = c.args.names.now in
    record {
      assemblies = c.in_ok-assemblies.ensures;
      types =
          types_named images c.in-Some.image.now c.has_rows.ensures (record { file = c.args.file; types = c.from.result; references = c.deref.result }) c.in-Some.ensures (c.from.ensures ∙ c.type_count.ensures) c.in_ok-types.types.items c.deref.ensures.value
          (subst (AreTypes (seen_all images) c.args.file) (sym c.deref.ensures.value) c.in_ok-types.ensures.types) c.in_ok-types.ensures.few;
      fields = c.in_ok-bound.ensures.fields;
      methods = c.in_ok-bound.ensures.methods;
    }
