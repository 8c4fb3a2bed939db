use Rattle.std.proofs.Common.{◌≡◌, ◌+◌, [], ◌++◌, ◌∷◌, Some, rules, sym, ap, ◌∙◌}
use Rattle.std.specs.Prelude.{if◌then◌else◌}
use Rattle.image_pools.specs.Pools.{same_entry, entry_size}
use Rattle.msspot_write.specs.Kinds.{entry_of}
use Rattle.msspot_write.specs.Parts.{found}
use Rattle.msspot_write.specs.Starts.{pool_size}
use Rattle.msspot_write.proofs.EntryLaws.{found_more, size_more}
use Rattle.msspot_write.proofs.entries.Pool.append.Goals as goal

pub returns-clause-agrees : goal.returns-clause-agrees
returns-clause-agrees c =
    let es = c.args.self.now.entries.items in
    let e = entry_of c.args.kind c.args.text.now in
    let was = c.requires.agrees in
    let items : c.push.new.self.items ≡ es ++ e ∷ [] = search rules in
    record {
      size = c.in_ok-size.ensures ∙ ap (λ n. n + entry_size c.args.text.now) was.size ∙ sym (size_more es e) ∙ ap pool_size (sym items);
      starts = λ of other.
          c.in_ok-note.ensures of other
          ∙ (λ i. if same_entry (entry_of of other) e then Some (was.size i) else was.starts of other i)
          ∙ sym (found_more es e (entry_of of other) c.requires.new)
          ∙ ap (λ ys. found ys (entry_of of other)) (sym items);
    }
