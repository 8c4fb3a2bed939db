use Rattle.kept_parts.proofs.PartLaws.{made_are}
use Rattle.kept_parts.proofs.law.made_parts_are_of_the_file.Goals as goal

pub returns : goal.returns
returns c =
    made_are
    (record {
      marked = c.marked_rows_are_kept.ensures;
      version = c.header_is_of_the_file.ensures.version;
      name = c.header_is_of_the_file.ensures.name;
      entry = c.header_is_of_the_file.ensures.entry;
      assemblies = c.references_are_of_the_file.ensures.assemblies;
      references = c.references_are_of_the_file.ensures.types;
      field_references = c.references_are_of_the_file.ensures.fields;
      method_references = c.references_are_of_the_file.ensures.methods;
      types = c.types_are_of_the_world.ensures.types;
      interfaces = c.types_are_of_the_world.ensures.interfaces;
      fields = c.fields_are_of_the_world.ensures.fields;
      methods = c.methods_are_of_the_world.ensures;
      clauses = c.clauses_are_of_the_file.ensures;
      specs = c.references_are_of_the_file.ensures.specs;
      datas = c.fields_are_of_the_world.ensures.bytes;
      literals = c.literals_are_of_the_file.ensures;
    })
