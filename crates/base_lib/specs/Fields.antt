-- An item by its fields, and what they say.
use Rattle.std.specs.Prelude.{length, Bool, ◌&&◌, nat_le}
use Rattle.std.specs.Borrow.{Bor}
use Rattle.base_tables.specs.Shape.{Item, ItemRow, signature_of, kinds_of, lines_of}
use Rattle.base_lib.specs.declared.fields.Fields.{Fields}

-- the fields of a row of the tables
abbrev pub fields_with : ItemRow Bor → Fields
fields_with i = record {
  entry = i.0;
  key = i.1;
  name = i.2;
  namespace = i.3;
  base = i.4;
  flags = i.5;
  signature = i.6;
  work = i.7.0;
  number = i.7.1;
  locals = i.7.2;
  lines = i.7.3;
}

-- the item that they say
abbrev pub said_by : Fields → Item
said_by f = record {
  entry = f.entry;
  key = f.key.now;
  name = f.name.now;
  namespace = f.namespace.now;
  base = f.base.now;
  flags = f.flags;
  signature = signature_of f.signature;
  body = record { work = f.work; number = f.number; locals = kinds_of f.locals.now; lines = lines_of f.lines.now };
}

-- its texts and lists are short
abbrev pub is_small : Fields → Bool
is_small f =
    nat_le (length f.key.now) 100 && nat_le (length f.signature.2.now) 1000 && nat_le (length f.locals.now) 1000 && nat_le (length f.lines.now) 1000
