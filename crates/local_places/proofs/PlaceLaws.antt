-- The places of a method, where its signature and that of its locals fit (27).
use Rattle.std.proofs.Common.{◌≡◌, ℕ, suc, ◌-◌, ◌<◌, Bool, true, false, List, [], ◌∷◌, ◌++◌, map, Option, Some, None, refl, sym, ap, ◌∙◌, subst, arith}
use Rattle.std.specs.Prelude.{◌&&◌, ◌||◌, ◌==◌, if◌then◌else◌, is_some, nat_eq, nat_le, slice_get, slice_index, unwrap_or}
use Rattle.std.specs.List.{list_all, filter_map}
use Rattle.std.specs.Option.{option_map}
use Rattle.std.proofs.lemmas.Bool.{and_parts, leb-true}
use Rattle.std.proofs.lemmas.Option.{get_or_from_slice_get}
use Rattle.cil_code.specs.Bodies.{BodyPart, body_at}
use Rattle.file_tables.specs.File.{FilePart}
use Rattle.file_tables.specs.Metadata.{MetadataPart, column_of, row_count, rows_of}
use Rattle.file_tables.specs.Pe.{tail}
use Rattle.machine.specs.Data.{Id, Plain}
use Rattle.machine.specs.Program.{Method}
use Rattle.machine.specs.Throw.{on_some}
use Rattle.machine_typed.proofs.Heaps.{some_inv}
use Rattle.classes.specs.Classes.{Classes, OwnMethod, SigType, SigPlace, Direct, Signature}
use Rattle.classes.specs.Listed.{method_with, no_code, this_before}
use Rattle.classes.specs.Queries.{place_of as place_in, type_of}
use Rattle.class_rules.specs.Rules.{holds_some, is_handle, sig_fits, sig_of_place, signature_fits}
use Rattle.assemblies.specs.Rows.{Assembly, MethodRow as RawMethod}
use Rattle.assemblies.specs.Binding.{code_with, expanded, expanded_signature, id_at, own_method}
use Rattle.assemblies.proofs.Back.{get_there}
use Rattle.world_rows.specs.Lines.{body_in, body_part, if_sound, is_aligned, is_locals_token, raw_code}
use Rattle.world_rows.specs.Rows.{is_internal}
use Rattle.world_rows.specs.Rows as rows
use Rattle.world_rows.specs.Signatures.{locals_signature, method_signature}
use Rattle.world_rows.specs.Tokens.{bytes_at, locals_signatures, methods, number_of, table_of}
use Rattle.world_rows.specs.World.{assemblies_of, ecma_sources, rows_alone, size_of}
use Rattle.member_keys.specs.declared.keys.SignatureKey.{SignatureKey}
use Rattle.member_keys.specs.Seen.{signature_seen}
use Rattle.class_table.specs.declared.rows.ClassTable.{ClassTable}
use Rattle.class_table.specs.declared.rows.MethodRow.{MethodRow}
use Rattle.class_table.specs.Seen.{classes_seen, method_seen}
use Rattle.class_table.specs.Whole.{IsTable}
use Rattle.class_table.proofs.TableLaws.{table_law}
use Rattle.class_targets.specs.Owned.{method_found}
use Rattle.cil_types.specs.Spelt.{AreSpelt}
use Rattle.place_types.specs.Types.{place_of, place_up}
use Rattle.verify_ops.specs.Facts.{result_of}
use Rattle.ecma_effects.specs.Known.{AllLoaded}
use Rattle.verdict_rules.specs.Code.{body_of, method_here}
use Rattle.verdict_rules.specs.Members.{locals_tests, locals_wrong, method_tests, method_wrong}
use Rattle.verdict_rules.specs.Order.{phase_fault}
use Rattle.verdict_rules.specs.Types.{type_rules}
use Rattle.verdict_rules.specs.Verdict.{member_rules, profile}
use Rattle.verdict_rules.specs.World.{World, method_row, world_of}
use Rattle.verdict_laws.proofs.Kept.{each_kept, row_kept, tests_kept}
use Rattle.verdict_laws.proofs.Rows.{file_at, from_zero, native}
use Rattle.verdict_laws.proofs.Signatures.{locals_fit, method_fits, none_wrong}
use Rattle.method_facts.specs.declared.method.MethodPlaces.{MethodPlaces}
use Rattle.method_facts.specs.Members.{ArePlaces, owner_or_none}
use Rattle.method_facts.specs.Places.{place_to, result_to, type_to}
use Rattle.method_facts.proofs.Tells.{arguments_up, result_up}
use Rattle.local_places.specs.Locals.{locals_meant}
use Rattle.local_places.proofs.LoadedLaws.{arguments_loaded, locals_loaded}
use Rattle.local_places.proofs.RowLaws.{code_here, here_by, made_of, seen_is, with_owner}

-- ---- types as parameters

module _ (cs : Classes) where
  directly : (ss : List SigType) → map (place_in cs) (map Direct ss) ≡ map (λ s. Plain (type_of cs s)) ss
  directly [] = refl
  directly (s ∷ ss) = ap (λ ks. Plain (type_of cs s) ∷ ks) (directly ss)

  plainly : (ss : List SigType) → map (λ s. type_to (type_of cs s)) ss ≡ map place_to (map (λ s. Plain (type_of cs s)) ss)
  plainly [] = refl
  plainly (s ∷ ss) = ap (λ ks. type_to (type_of cs s) ∷ ks) (plainly ss)

  abbrev one_fits : Id → SigPlace → Bool
  one_fits c p = sig_fits cs (sig_of_place p) || (nat_eq c.file 0 && is_handle cs (sig_of_place p))

  all_fit : (c : Id) (ss : List SigType) → list_all (sig_fits cs) ss ≡ true → list_all (one_fits c) (map Direct ss) ≡ true
  all_fit c [] h = refl
  all_fit c (s ∷ ss) h =
      let both = and_parts (sig_fits cs s) (list_all (sig_fits cs) ss) h in
      ap (λ b. (b || (nat_eq c.file 0 && is_handle cs s)) && list_all (one_fits c) (map Direct ss)) both.0 ∙ all_fit c ss both.1

  locals_up : AreSpelt cs → (c : Id) (ss : List SigType) → list_all (sig_fits cs) ss ≡ true → map place_of (map (λ s. type_to (type_of cs s)) ss) ≡ map place_up (map (λ s. Plain (type_of cs s)) ss)
  locals_up spelt c ss h =
      arguments_up cs spelt c (record { has_this = false; returns = None; parameters = map Direct ss }) (map (λ s. type_to (type_of cs s)) ss) (plainly ss ∙ ap (map place_to) (sym (directly ss))) (all_fit c ss h)
      ∙ ap (map place_up) (directly ss)

if_kept : {A : Type 0} (b : Bool) (x y : A) → (if b then Some x else None) ≡ Some y → (b ≡ true) × (x ≡ y)
if_kept true x y e = (refl, let same : x ≡ y = cc e in same)
if_kept false x y e = absurd (cc e)

-- ---- the token of a sound body's locals

module _ (x : FilePart) (columns : List ℕ) (b : BodyPart) where
  abbrev m : MetadataPart
  m = x.metadata

  abbrev rva : ℕ
  rva = slice_index columns 0

  is_token : body_of x columns ≡ Some b → is_locals_token m b.locals_token ≡ true
  unfolding body_part
  is_token e = by_internal (is_internal columns) e
    where
      sound : (bytes : List ℕ) → body_in m rva bytes ≡ Some b → is_locals_token m b.locals_token ≡ true
      sound bytes h =
          let a = some_inv (body_at bytes) (if_sound m rva bytes) b h in
          let c = if_kept (is_aligned rva bytes && is_locals_token m a.0.locals_token) a.0 b a.2 in
          subst (λ (z : BodyPart). is_locals_token m z.locals_token ≡ true) c.1 (and_parts (is_aligned rva bytes) (is_locals_token m a.0.locals_token) c.0).1

      by_rva : (c : Bool) → (if c then None else on_some (tail x.pe rva) (body_in m rva)) ≡ Some b → is_locals_token m b.locals_token ≡ true
      by_rva true h = absurd (cc h)
      by_rva false h = let t = some_inv (tail x.pe rva) (body_in m rva) b h in sound t.0 t.2

      by_internal : (c : Bool) → (if c then None else body_part x rva) ≡ Some b → is_locals_token m b.locals_token ≡ true
      by_internal true h = absurd (cc h)
      by_internal false h = by_rva (rva == 0) h

module _ (files : List FilePart) where
  abbrev w : World
  w = world_of files

  abbrev size : ℕ
  size = size_of (rows_alone files)

  abbrev ps : List Assembly
  ps = assemblies_of files

  abbrev cs : Classes
  cs = (ecma_sources files).classes

  pub members_kept : profile files ≡ None → phase_fault (member_rules w) files ≡ None
  unfolding profile
  members_kept kept = each_kept (λ _ rules. phase_fault rules files) (type_rules w ∷ member_rules w ∷ []) 1 (member_rules w) kept refl

  module _ (in_members : phase_fault (member_rules w) files ≡ None) (file : ℕ) (x : FilePart) (here : slice_get files file ≡ Some x) where
    -- ---- signatures of methods

    method_row_fits : (row : ℕ) (columns : List ℕ) → slice_get (rows_of x.metadata methods) row ≡ Some columns → (c : Id) → c.file ≡ file → holds_some (expanded_signature size ps file (method_signature x.metadata (bytes_at x.metadata (slice_index columns 4)))) (signature_fits cs c) ≡ true
    method_row_fits row columns at c own =
        let kept = row_kept (member_rules w) files in_members file x here 1 (record { table = methods; tests = method_tests w file x }) row columns refl at in
        let none = none_wrong 27 (method_wrong w file x.metadata (file == 0) (bytes_at x.metadata (slice_index columns 4))) (tests_kept file methods (suc row) (method_tests w file x row columns) 0 kept) in
        method_fits files file x.metadata (bytes_at x.metadata (slice_index columns 4)) c own (subst (λ f. method_wrong w file x.metadata (f == 0) (bytes_at x.metadata (slice_index columns 4)) ≡ None) (sym own) none)

    -- ---- signatures of locals

    signature_row : (n : ℕ) → n < row_count x.metadata locals_signatures → list_all (sig_fits cs) (filter_map (expanded size ps file) (locals_signature x.metadata (bytes_at x.metadata (column_of x.metadata locals_signatures (suc n) 0)))) ≡ true
    signature_row n below =
        let r = get_there (rows_of x.metadata locals_signatures) n below in
        let kept = row_kept (member_rules w) files in_members file x here 3 (record { table = locals_signatures; tests = locals_tests w file x.metadata }) n r.0 refl r.1 in
        let none = none_wrong 27 (locals_wrong w file x.metadata (bytes_at x.metadata (slice_index r.0 0))) (tests_kept file locals_signatures (suc n) (locals_tests w file x.metadata n r.0) 0 kept) in
        let column : column_of x.metadata locals_signatures (suc n) 0 ≡ slice_index r.0 0 = ap (λ z. slice_index z 0) (get_or_from_slice_get (rows_of x.metadata locals_signatures) n r.0 [] r.1) in
        ap (λ z. list_all (sig_fits cs) (filter_map (expanded size ps file) (locals_signature x.metadata (bytes_at x.metadata z)))) column ∙ locals_fit files file x.metadata (bytes_at x.metadata (slice_index r.0 0)) none

    named_fit : (token : ℕ) → is_locals_token x.metadata token ≡ true → list_all (sig_fits cs) (locals_meant files file x token) ≡ true
    named_fit token = by (token == 0)
      where
        of_row : ((table_of token == locals_signatures) && nat_le 1 (number_of token) && nat_le (number_of token) (row_count x.metadata locals_signatures)) ≡ true → list_all (sig_fits cs) (filter_map (expanded size ps file) (locals_signature x.metadata (bytes_at x.metadata (column_of x.metadata locals_signatures (number_of token) 0)))) ≡ true
        of_row h =
            let first = and_parts ((table_of token == locals_signatures) && nat_le 1 (number_of token)) (nat_le (number_of token) (row_count x.metadata locals_signatures)) h in
            let low = leb-true 1 (number_of token) (and_parts (table_of token == locals_signatures) (nat_le 1 (number_of token)) first.0).1 in
            let high = leb-true (number_of token) (row_count x.metadata locals_signatures) first.1 in
            let same : suc ((number_of token) - 1) ≡ (number_of token) = omega (arith, low) in
            subst (λ k. list_all (sig_fits cs) (filter_map (expanded size ps file) (locals_signature x.metadata (bytes_at x.metadata (column_of x.metadata locals_signatures k 0)))) ≡ true) same (signature_row ((number_of token) - 1) (omega (arith, low, high)))

        by : (c : Bool) → (c || ((table_of token == locals_signatures) && nat_le 1 (number_of token) && nat_le (number_of token) (row_count x.metadata locals_signatures))) ≡ true → list_all (sig_fits cs) (filter_map (expanded size ps file) (if c then [] else locals_signature x.metadata (bytes_at x.metadata (column_of x.metadata locals_signatures (number_of token) 0)))) ≡ true
        by true h = refl
        by false h = of_row h

    -- ---- the code of a row

    module _ (row : ℕ) (columns : List ℕ) (at : slice_get (rows_of x.metadata methods) row ≡ Some columns) where
      code_is : (b : BodyPart) → body_of x columns ≡ Some b → code_here files file row x ≡ code_with size ps file (raw_code x.metadata b)
      code_is b e = ap (λ o. unwrap_or o no_code) code_there
        where
          by : (c : Bool) → (if c then None else option_map (raw_code x.metadata) (body_part x (slice_index columns 0))) ≡ option_map (raw_code x.metadata) (if c then None else body_part x (slice_index columns 0))
          by true = refl
          by false = refl

          code_there : (ecma_sources files).code (id_at file row) ≡ Some (code_with size ps file (raw_code x.metadata b))
          code_there =
              ap (λ o. on_some o (λ (p : Assembly). on_some (slice_get p.methods row) (λ (y : RawMethod). option_map (code_with size ps file) y.code))) (file_at files file x here)
              ∙ (ap (λ o. on_some o (λ (y : RawMethod). option_map (code_with size ps file) y.code)) (from_zero (rows.method_row x (native files file)) row (rows_of x.metadata methods) ∙ ap (option_map (rows.method_row x (native files file) row)) at)
              ∙ ap (option_map (code_with size ps file)) (by (is_internal columns) ∙ ap (option_map (raw_code x.metadata)) e))

      pub locals_known : AreSpelt cs → (m : Method) (b : BodyPart) → method_here w file x row ≡ Some m → body_of x columns ≡ Some b → (map place_of (map (λ s. type_to (type_of cs s)) (locals_meant files file x b.locals_token)) ≡ map place_up m.locals) × AllLoaded m.locals × (m.max_stack ≡ b.max_stack)
      locals_known spelt m b e body =
          let made = made_of files file row x m e in
          let is : method_with cs made.owner made.own made.signature (code_with size ps file (raw_code x.metadata b)) ≡ m = ap (method_with cs made.owner made.own made.signature) (sym (code_is b body)) ∙ made.is in
          let fit = named_fit b.locals_token (is_token x columns b body) in (
            locals_up cs spelt made.owner (locals_meant files file x b.locals_token) fit ∙ ap (λ (m : Method). map place_up m.locals) is,
            subst (λ (m : Method). AllLoaded m.locals) is (locals_loaded cs spelt (locals_meant files file x b.locals_token) fit),
            ap (λ (m : Method). m.max_stack) (sym is),
          )

    -- ---- the arguments of a row of the table

    module _ (t : ClassTable) (table : IsTable files t) (row : ℕ) where
      same_classes : classes_seen t ≡ cs
      same_classes = table_law files t table

      row_fits : (r : MethodRow) (s : Signature) → method_found t (id_at file row) ≡ Some r → option_map signature_seen r.signature ≡ Some s → (c : Id) → c.file ≡ file → signature_fits cs c s ≡ true
      row_fits r s found signed c own = by (slice_get (rows_of x.metadata methods) row) refl
        where
          seen : Some (method_seen file row r) ≡ option_map (own_method size ps file row) (option_map (rows.method_row x (native files file) row) (slice_get (rows_of x.metadata methods) row))
          seen = seen_is files file row x t table here r found ∙ ap (option_map (own_method size ps file row)) (from_zero (rows.method_row x (native files file)) row (rows_of x.metadata methods))

          by : (o : Option (List ℕ)) → slice_get (rows_of x.metadata methods) row ≡ o → signature_fits cs c s ≡ true
          by None at = let gone : Some (method_seen file row r) ≡ None = seen ∙ ap (λ o. option_map (own_method size ps file row) (option_map (rows.method_row x (native files file) row) o)) at in absurd (cc gone)
          by (Some columns) at =
              let both : Some (method_seen file row r) ≡ Some (own_method size ps file row (rows.method_row x (native files file) row columns)) = seen ∙ ap (λ o. option_map (own_method size ps file row) (option_map (rows.method_row x (native files file) row) o)) at in
              let same : method_seen file row r ≡ own_method size ps file row (rows.method_row x (native files file) row columns) = cc both in
              let meant : Some s ≡ expanded_signature size ps file (method_signature x.metadata (bytes_at x.metadata (slice_index columns 4))) = sym signed ∙ ap (λ (m : OwnMethod). m.signature) same in
              ap (λ o. holds_some o (signature_fits cs c)) meant ∙ method_row_fits row columns at c own

      pub arguments_known : AreSpelt cs → (m : Method) (p : MethodPlaces) → method_here w file x row ≡ Some m → ArePlaces t (id_at file row) p → (map place_of p.arguments.items ≡ map place_up m.arguments) × (result_of p.result ≡ option_map place_up m.returns) × AllLoaded m.arguments
      arguments_known spelt m p e told =
          let fits = row_fits told.row told.signature told.row_is told.signed (owner_or_none t file told.row.owner) refl in (
            arguments_up cs spelt (owner_or_none t file told.row.owner) told.signature p.arguments.items arguments fits ∙ ap (λ (m : Method). map place_up m.arguments) is,
            result_up cs spelt (owner_or_none t file told.row.owner) told.signature p.result result fits ∙ ap (λ (m : Method). option_map place_up m.returns) is,
            subst (λ (m : Method). AllLoaded m.arguments) is (arguments_loaded cs spelt (owner_or_none t file told.row.owner) told.signature fits),
          )
        where
          is : method_with cs (owner_or_none t file told.row.owner) (method_seen file row told.row) told.signature (code_here files file row x) ≡ m
          is =
              let there = here_by files file row x t table here (Some told.row) told.row_is ∙ ap (with_owner files file row x t table here told.row (owner_or_none t file told.row.owner)) told.signed in
              let both : Some (method_with cs (owner_or_none t file told.row.owner) (method_seen file row told.row) told.signature (code_here files file row x)) ≡ Some m = sym there ∙ e in
              cc both

          arguments : p.arguments.items ≡ map place_to (this_before cs (owner_or_none t file told.row.owner) told.signature ++ map (place_in cs) told.signature.parameters)
          arguments = told.arguments ∙ ap (λ (c : Classes). map place_to (this_before c (owner_or_none t file told.row.owner) told.signature ++ map (place_in c) told.signature.parameters)) same_classes

          result : p.result ≡ result_to (option_map (type_of cs) told.signature.returns)
          result = told.result ∙ ap (λ (c : Classes). result_to (option_map (type_of c) told.signature.returns)) same_classes

  -- ---- a method that the table tells no places of

  pub no_method : (t : ClassTable) → IsTable files t → (file row : ℕ) (x : FilePart) → slice_get files file ≡ Some x → holds_some (method_found t (id_at file row)) (λ m. is_some m.signature) ≡ false → method_here w file x row ≡ None
  no_method t table file row x here none = by (method_found t (id_at file row)) refl none
    where
      by : (o : Option MethodRow) → method_found t (id_at file row) ≡ o → holds_some o (λ m. is_some m.signature) ≡ false → method_here w file x row ≡ None
      by None found h = here_by files file row x t table here None found
      by (Some r) found h = here_by files file row x t table here (Some r) found ∙ ap (with_owner files file row x t table here r (owner_or_none t file r.owner)) (unsigned r.signature h)
        where
          unsigned : (o : Option SignatureKey) → is_some o ≡ false → option_map signature_seen o ≡ None
          unsigned None k = refl
          unsigned (Some key) k = absurd (cc k)
