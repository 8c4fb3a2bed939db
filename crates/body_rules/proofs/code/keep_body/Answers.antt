use Rattle.std.proofs.Common.{ℕ, List, subst, ◌∙◌, OnOk}
use Rattle.std.specs.List.{flat_map}
use Rattle.std.proofs.lemmas.Result.{on_ok_weaker}
use Rattle.cil_code.specs.declared.clause.Clause.{Clause}
use Rattle.kept_rules.specs.Row.{in_type, in_line, in_clause}
use Rattle.world_rows.specs.Lines.{raw_clause, lines_of, locals_of}
use Rattle.row_rules.specs.Links.{row_at, keeps_each, Adds}
use Rattle.body_rules.proofs.CodeLaws.{body_kept}
use Rattle.body_rules.proofs.code.keep_body.Goals as goal

pub returns : goal.returns
returns c =
    let m = c.args.tables.now in
    let f = c.args.place.file in
    let r = row_at c.args.place in
    on_ok_weaker c.keep_lines.result
    (body_kept f m r c.args.rules.now c.keep_places.new.rules c.keep_clauses.new.rules c.keep_lines.new.rules c.args.body.now
    (subst (λ t. Adds (keeps_each r (flat_map (in_type f) (locals_of m t))) c.args.rules.now c.keep_places.new.rules) c.locals_token.ensures c.in_ok-keep_places.ensures)
    (subst (λ (cs : List Clause). Adds (keeps_each r (flat_map (λ k. in_clause f (raw_clause m k)) cs)) c.keep_places.new.rules c.keep_clauses.new.rules) (c.as_slice.ensures ∙ c.in_ok-clauses.ensures) c.in_ok-keep_clauses.ensures))
    (subst (λ (code : List ℕ). OnOk c.keep_lines.result (Adds (keeps_each r (flat_map (in_line f) (lines_of m code))) c.keep_clauses.new.rules c.keep_lines.new.rules)) c.code.ensures c.keep_lines.ensures)
