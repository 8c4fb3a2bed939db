-- Which natives throw which exceptions, by their numbers.
use Rattle.std.proofs.Common.{◌≡◌, ℕ, Bool, true, false, ◌==◌, ◌||◌, List, [], ◌∷◌, ◌++◌, Option, Some, None, refl, sym, ap, ◌∙◌}
use Rattle.std.specs.Prelude.{nat_eq, unwrap_or}
use Rattle.std.specs.List.{find}
use Rattle.std.specs.Option.{option_map}
use Rattle.std.proofs.lemmas.Bool.{eqb-true, ne_eqb}
use Rattle.std.proofs.lemmas.List.{append-nil}
use Rattle.board_types.specs.declared.board.Known.{Known}
use Rattle.board_types.specs.declared.board.Known.TheVariants.{NullReference, IndexOutOfRange, Overflow, Arithmetic, DivideByZero, InvalidCast, ArrayTypeMismatch, Argument, ArgumentNull, ArgumentOutOfRange}
use Rattle.machine.specs.Program.{NativeName, ObjectToString, EnumEquals, EnumToString, ArrayLength, ArrayCopy, StringLength, StringChars, StringConcat, StringSubstring, StringEquals, StringCompare, StringFromChars, StringFromChar, NumberSigned, NumberUnsigned, InitializeArray, DebugPrint, native_number, Body, Code, Native, Missing}
use Rattle.machine_rename.specs.Rename.{throws, of_argument, of_null, of_range}
use Rattle.classes.specs.Classes.{Classes}
use Rattle.classes.specs.Queries.{known}
use Rattle.alike.proofs.Targets.{find_true}
use Rattle.world_rows.specs.Natives.{NativeRow, natives}
use Rattle.class_table.specs.Seen.{native_seen}
use Rattle.kept_rules.specs.Row.{in_option}
use Rattle.row_rules.specs.Links.{row_if}
use Rattle.member_rules.specs.declared.natives.Exceptions.{Exceptions}
use Rattle.member_rules.specs.declared.natives.Thrown.{Thrown}
use Rattle.member_rules.specs.Members.{rows_where, class_row, throws_in, thrown_by}
use Rattle.member_rules.specs.Thrown.{IsThrown}
use Rattle.member_rules.proofs.Among.{Among}

abbrev pub told : Bool → Bool → Bool → Exceptions
told argument null range = record { argument = argument; argument_null = null; argument_out_of_range = range }

abbrev by_number : ℕ → Exceptions
by_number n = told ((n == 5) || (n == 16)) ((n == 5) || (n == 12)) ((n == 5) || ((n == 9) || (n == 12)))

abbrev pub by_body : Body → Exceptions
by_body b = told (throws_in b Argument) (throws_in b ArgumentNull) (throws_in b ArgumentOutOfRange)

by_name : (name : NativeName) → by_number (native_number name) ≡ by_body (Native name)
by_name ObjectToString = refl
by_name EnumEquals = refl
by_name EnumToString = refl
by_name ArrayLength = refl
by_name ArrayCopy = refl
by_name StringLength = refl
by_name StringChars = refl
by_name StringConcat = refl
by_name StringSubstring = refl
by_name StringEquals = refl
by_name StringCompare = refl
by_name StringFromChars = refl
by_name StringFromChar = refl
by_name NumberSigned = refl
by_name NumberUnsigned = refl
by_name InitializeArray = refl
by_name DebugPrint = refl

abbrev of_number : ℕ → Option NativeRow
of_number n = find (λ (r : NativeRow). nat_eq (native_number r.number) n) natives

throws_told : (n : ℕ) → by_number n ≡ by_body (native_seen n)
throws_told n = go (of_number n) refl
  where
    -- a number that a native has is not of none
    apart : of_number n ≡ None → (k : ℕ) (r : NativeRow) → of_number k ≡ Some r → (n == k) ≡ false
    apart none k r has = ne_eqb n k (λ same. let both : None ≡ Some r = sym none ∙ ap of_number same ∙ has in absurd (cc both))

    go : (o : Option NativeRow) → of_number n ≡ o → by_number n ≡ by_body (unwrap_or (option_map (λ (r : NativeRow). Native r.number) o) Missing)
    go (Some r) e = ap by_number (sym (eqb-true (native_number r.number) n (find_true (λ (x : NativeRow). nat_eq (native_number x.number) n) natives r e))) ∙ by_name r.number
    go None e =
        ap (λ b. told (b || (n == 16)) (b || (n == 12)) (b || ((n == 9) || (n == 12)))) (apart e 5 _ refl)
        ∙ ap (λ b. told b (n == 12) ((n == 9) || (n == 12))) (apart e 16 _ refl)
        ∙ ap (λ b. told false b ((n == 9) || b)) (apart e 12 _ refl)
        ∙ ap (λ b. told false false (b || false)) (apart e 9 _ refl)

-- ---- by the number

at : (n k : ℕ) → n ≡ k → by_body (native_seen k) ≡ by_body (native_seen n)
at n k e = ap (λ j. by_body (native_seen j)) (sym e)

pub at_copy : (n : ℕ) → n ≡ 5 → told true true true ≡ by_body (native_seen n)
at_copy n e = at n 5 e

pub at_substring : (n : ℕ) → n ≡ 9 → told false false true ≡ by_body (native_seen n)
at_substring n e = at n 9 e

pub at_chars : (n : ℕ) → n ≡ 12 → told false true true ≡ by_body (native_seen n)
at_chars n e = at n 12 e

pub at_elements : (n : ℕ) → n ≡ 16 → told true false false ≡ by_body (native_seen n)
at_elements n e = at n 16 e

pub at_others : (n : ℕ) → (n ≡ 5 → ⊥) → (n ≡ 9 → ⊥) → (n ≡ 12 → ⊥) → (n ≡ 16 → ⊥) → told false false false ≡ by_body (native_seen n)
at_others n copy substring chars elements =
    sym
    (ap (λ b. told (b || (n == 16)) (b || (n == 12)) (b || ((n == 9) || (n == 12)))) (ne_eqb n 5 copy)
    ∙ ap (λ b. told b (n == 12) ((n == 9) || (n == 12))) (ne_eqb n 16 elements)
    ∙ ap (λ b. told false b ((n == 9) || b)) (ne_eqb n 12 chars)
    ∙ ap (λ b. told false false (b || false)) (ne_eqb n 9 substring))
    ∙ throws_told n

-- ---- only these

none_thrown : (name : NativeName) (k : Known) → of_argument k ≡ false → of_null k ≡ false → of_range k ≡ false → throws name k ≡ false
none_thrown ArrayCopy k a n r = ap (λ b. b || (of_null k || of_range k)) a ∙ ap (λ b. b || of_range k) n ∙ r
none_thrown StringSubstring k a n r = r
none_thrown StringFromChars k a n r = ap (λ b. b || of_range k) n ∙ r
none_thrown InitializeArray k a n r = a
none_thrown ObjectToString k a n r = refl
none_thrown EnumEquals k a n r = refl
none_thrown EnumToString k a n r = refl
none_thrown ArrayLength k a n r = refl
none_thrown StringLength k a n r = refl
none_thrown StringChars k a n r = refl
none_thrown StringConcat k a n r = refl
none_thrown StringEquals k a n r = refl
none_thrown StringCompare k a n r = refl
none_thrown StringFromChar k a n r = refl
none_thrown NumberSigned k a n r = refl
none_thrown NumberUnsigned k a n r = refl
none_thrown DebugPrint k a n r = refl

abbrev pub others : List Known
others = Argument ∷ ArgumentNull ∷ ArgumentOutOfRange ∷ []

never : (name : NativeName) (k : Known) → throws name k ≡ true → throws name k ≡ false → Among others k
never name k does doesnt = let both : true ≡ false = sym does ∙ doesnt in absurd (cc both)

pub among_others : (name : NativeName) (k : Known) → throws name k ≡ true → Among others k
among_others name Argument t = (0, refl)
among_others name ArgumentNull t = (1, refl)
among_others name ArgumentOutOfRange t = (2, refl)
among_others name NullReference t = never name NullReference t (none_thrown name NullReference refl refl refl)
among_others name IndexOutOfRange t = never name IndexOutOfRange t (none_thrown name IndexOutOfRange refl refl refl)
among_others name Overflow t = never name Overflow t (none_thrown name Overflow refl refl refl)
among_others name Arithmetic t = never name Arithmetic t (none_thrown name Arithmetic refl refl refl)
among_others name DivideByZero t = never name DivideByZero t (none_thrown name DivideByZero refl refl refl)
among_others name InvalidCast t = never name InvalidCast t (none_thrown name InvalidCast refl refl refl)
among_others name ArrayTypeMismatch t = never name ArrayTypeMismatch t (none_thrown name ArrayTypeMismatch refl refl refl)

pub native_throws : (b : Body) (k : Known) → throws_in b k ≡ true → (name : NativeName) × ((b ≡ Native name) × (throws name k ≡ true))
native_throws (Native name) k t = (name, (refl, t))
native_throws Code k t = absurd (cc t)
native_throws Missing k t = absurd (cc t)

-- ---- the classes

pub none_where : (b : Bool) → rows_where b [] ≡ []
none_where true = refl
none_where false = refl

-- what the exceptions of a body keep
pub thrown_is : (cs : Classes) (t : Thrown) (e : Exceptions) (b : Body) → IsThrown cs t → e ≡ by_body b → rows_where e.argument (row_if t.argument) ++ (rows_where e.argument_null (row_if t.argument_null) ++ rows_where e.argument_out_of_range (row_if t.argument_out_of_range)) ≡ thrown_by cs b
thrown_is cs t e b is same =
    let a = rows_where (throws_in b Argument) (in_option class_row (known cs Argument)) in
    let n = rows_where (throws_in b ArgumentNull) (in_option class_row (known cs ArgumentNull)) in
    let r = rows_where (throws_in b ArgumentOutOfRange) (in_option class_row (known cs ArgumentOutOfRange)) in
    ap (λ (x : Exceptions). rows_where x.argument (row_if t.argument) ++ (rows_where x.argument_null (row_if t.argument_null) ++ rows_where x.argument_out_of_range (row_if t.argument_out_of_range))) same
    ∙ ap (λ q. rows_where (throws_in b Argument) q ++ (rows_where (throws_in b ArgumentNull) (row_if t.argument_null) ++ rows_where (throws_in b ArgumentOutOfRange) (row_if t.argument_out_of_range))) is.argument
    ∙ ap (λ q. a ++ (rows_where (throws_in b ArgumentNull) q ++ rows_where (throws_in b ArgumentOutOfRange) (row_if t.argument_out_of_range))) is.argument_null
    ∙ ap (λ q. a ++ (n ++ rows_where (throws_in b ArgumentOutOfRange) q)) is.argument_out_of_range
    ∙ ap (λ q. a ++ (n ++ q)) (sym (append-nil r))
