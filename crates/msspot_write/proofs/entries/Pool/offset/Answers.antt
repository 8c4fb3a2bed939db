use Rattle.std.proofs.Common.{ap, ◌∙◌}
use Rattle.std.specs.Prelude.{unwrap_or}
use Rattle.msspot_write.specs.Kinds.{entry_of}
use Rattle.msspot_write.specs.Parts.{found}
use Rattle.msspot_write.proofs.EntryLaws.{offset_found}
use Rattle.msspot_write.proofs.entries.Pool.offset.Goals as goal

pub returns : goal.returns
returns c =
    let es = c.args.self.now.entries.items in
    let e = entry_of c.args.kind c.args.text.now in
    c.unwrap_or.ensures ∙ ap (λ o. unwrap_or o c.args.self.now.size) c.find.ensures ∙ ap (unwrap_or (found es e)) c.requires.size ∙ offset_found es e
