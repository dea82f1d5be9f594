-- What a parse of the command line says of the texts that the getters read.
use Rattle.std.proofs.Common.{◌<◌, ◌≤◌, ◌≡◌, ◌∙◌, ◌^◌, ◌==◌, ◌&&◌, ◌||◌, ap, ap₂, arith, inl, inr, refl, subst, sym, ℕ, Bool, true, false, List, [], ◌∷◌, length, map, Option, Some, None, codes}
use Rattle.std.specs.Prelude.{option_and_then, nat_lt, not, option_map, slice_get, unwrap_or, pos, Result, Ok}
use Rattle.std.specs.List.{All, list_all, slice_index_or}
use Rattle.std.specs.Option.{option_map_or}
use Rattle.std.specs.Borrow.{Bor}
use Rattle.std.specs.Int.{IsInRange}
use Rattle.std.specs.Str.{bytes_eq}
use Rattle.std.specs.Str.Parse.{ParsesUnsigned}
use Rattle.std.proofs.lemmas.Bool.{and_parts, cases_lt, eqb-true, false≢true, not-true, or_cases}
use Rattle.std.proofs.lemmas.List.{get_or-map, length-map}
use Rattle.std.proofs.lemmas.List.Sums.{AllPass-from_list_all}
use Rattle.std.proofs.lemmas.Slice.Eq.{bytes_eq-Decides}
use Rattle.clap.specs.Words.{Accepts, App, IsParsed, IsParsedFrom, ReadsOne, Rule, SameRules, Text, app_of, args_of, found_of, groups_of, has_subcommand, is_simple, is_simple_and_free, matched_of, matches_of, one_of, one_text, parser_of, read_as, reading_of, rows_of, rule_of}
use Rattle.clap.specs.Built.{IsAuto}
use Rattle.clap.specs.Facts.{Entry, EntryPasses, PassesArg, parser_of_value}
use Rattle.clap.specs.Simple.{on_top}
use Rattle.clap.specs.Walk.{is_empty}
use Rattle.clap.specs.declared.builder.arg.Arg.{Arg}
use Rattle.clap.specs.declared.builder.command.Command.{Command}
use Rattle.clap.specs.declared.builder.value_parser.ValueParser.{ValueParser}
use Rattle.clap.specs.declared.builder.value_parser.ValueParser.TheVariants as vp
use Rattle.clap.specs.declared.parser.matches.ArgMatches.{ArgMatches}
use Rattle.clap.specs.declared.parser.matches.MatchedArg.{MatchedArg}
use Rattle.clap.proofs.CallerLemmas.{entry_by_id}
use Rattle.clap.proofs.CallerReads.{signed_reads}
use Rattle.clap.proofs.WalkLemmas.{one_text-rows}
use Rattle.shell.specs.CommandLine.{IsParseOf, bare_betr, betr, decimal, is_on, number, rows, rules}

-- a rule of this id has this parser
abbrev pub HasParser : Text → ValueParser → Rule → Type 0
HasParser id q r = bytes_eq r.id id ≡ true → r.parser ≡ Some q

-- the text is what a typed getter reads of a value that passed the parser
abbrev pub PassedAs : ValueParser → Text → Type 0
PassedAs q t = (raw : Text) × (ignore_case : Bool) × (t ≡ read_as (reading_of q) raw) × Accepts ignore_case q raw

-- building adds no argument of this id
abbrev pub IsOwn : Text → Type 0
IsOwn id = (id ≡ [] → ⊥) × (id ≡ codes "help" → ⊥) × (id ≡ codes "version" → ⊥)

abbrev pub is_own : Text → Bool
is_own id = nat_lt 0 (length id) && (not (bytes_eq id (codes "help")) && not (bytes_eq id (codes "version")))

own_from : (id : Text) → is_own id ≡ true → IsOwn id
own_from id h = (
  λ e. absurd (false≢true (subst (λ t. is_own t ≡ true) e h)),
  λ e. absurd (false≢true (subst (λ t. is_own t ≡ true) e h)),
  λ e. absurd (false≢true (subst (λ t. is_own t ≡ true) e h)),
)

abbrev pub is_range : ℕ → ℕ → Option ValueParser → Bool
is_range low high (Some (vp.Signed (pos a) (pos b))) = (a == low) && (b == high)
is_range low high _ = false

range_from : (low high : ℕ) (p : Option ValueParser) → is_range low high p ≡ true → p ≡ Some (vp.Signed (pos low) (pos high))
range_from low high (Some (vp.Signed (pos a) (pos b))) e =
    let both = and_parts _ _ e in
    ap₂ (λ (x y : ℕ). Some (vp.Signed (pos x) (pos y))) (eqb-true _ _ both.0) (eqb-true _ _ both.1)
range_from low high _ e = absurd (false≢true e)

abbrev pub is_bool : Option ValueParser → Bool
is_bool (Some vp.Bool) = true
is_bool _ = false

bool_from : (p : Option ValueParser) → is_bool p ≡ true → p ≡ Some vp.Bool
bool_from (Some vp.Bool) e = refl
bool_from _ e = absurd (false≢true e)

-- each rule of this id has a parser that passes the test, and building adds no argument of the id
abbrev pub has_option : (Option ValueParser → Bool) → Text → Bool
has_option test id = is_own id && list_all (λ (r : Rule). not (bytes_eq r.id id) || test r.parser) rules

parser_from : (test : Option ValueParser → Bool) (q : ValueParser) → ((p : Option ValueParser) → test p ≡ true → p ≡ Some q)
    → (id : Text) → list_all (λ (r : Rule). not (bytes_eq r.id id) || test r.parser) rules ≡ true → All (HasParser id q) rules
parser_from test q from id h k d lt same =
    elim (or_cases _ _ (AllPass-from_list_all (λ (r : Rule). not (bytes_eq r.id id) || test r.parser) rules h k d lt)) [
      | inl off ↦ absurd (false≢true (sym (not-true _ off) ∙ same))
      | inr passes ↦ from _ passes
    ]

none_left : {X : Type 0} (xs : List X) → is_empty xs ≡ true → xs ≡ []
none_left [] e = refl
none_left (x ∷ xs) e = absurd (omega (arith, eqb-true _ _ e))

rules_are : betr.top.rules ≡ rules
unfolding betr
rules_are = refl

is_plain : betr.top.is_plain ≡ true
unfolding betr
is_plain = refl

pub betr_is : on_top (λ s. record s { rules = rules }) bare_betr ≡ betr
unfolding betr
betr_is = refl

pub betr_is_simple : is_simple betr ≡ true
unfolding betr
betr_is_simple = refl

pub betr_is_free : is_simple_and_free betr ≡ true
unfolding betr
betr_is_free = refl

pub rows_are : (words : List Text) → matches_of betr words ≡ rows words
unfolding rows
rows_are words = refl

simple_rules : All (λ (r : Rule). r.is_simple ≡ true) rules
simple_rules = AllPass-from_list_all (λ (r : Rule). r.is_simple) rules refl

module _ (c : Command) (m : ArgMatches) (is : app_of c ≡ betr) (p : IsParsedFrom c m) where
  -- what holds of each rule holds of the rule of each argument
  rule_at : (P : Rule → Type 0) → All P rules → (k : ℕ) (d : Arg) → k < length (args_of c) → P (rule_of (slice_index_or (args_of c) k d))
  rule_at P all k d lt =
      let same : map rule_of (args_of c) ≡ rules = ap (λ (a : App). a.top.rules) is ∙ rules_are in
      let here : All P (map rule_of (args_of c)) = subst (All P) (sym same) all in
      let len : length (map rule_of (args_of c)) ≡ length (args_of c) = length-map (args_of c) rule_of in
      subst P (get_or-map rule_of (args_of c) k d (rule_of d) lt) (here k (rule_of d) (omega (arith, len, lt)))

  no_groups : groups_of p.built ≡ []
  no_groups =
      let plain = and_parts _ _ (ap (λ (a : App). a.top.is_plain) is ∙ is_plain) in
      let old : groups_of c ≡ [] = none_left _ plain.0 in
      (p.from.same_groups (λ k d lt.
      let simple = rule_at (λ (r : Rule). r.is_simple ≡ true) simple_rules k d lt in
      none_left _ (and_parts _ _ (and_parts _ _ (and_parts _ _ simple).1).1).0)).1 ∙ old

  parsed_is : IsParsed p.built (found_of m) (has_subcommand m)
  parsed_is =
      let plain = and_parts _ _ (ap (λ (a : App). a.top.is_plain) is ∙ is_plain) in
      let global = not-true _ (and_parts _ _ (and_parts _ _ plain.1).1).0 in
      p.parsed (p.from.globals ∙ global)

  module _ (id : Text) (q : ValueParser) (own : IsOwn id) (all : All (HasParser id q) rules) where
    -- an argument of the built command that has this id has this parser
    parser_is : (j : ℕ) (x : Arg) → j < length (args_of p.built) → slice_index_or (args_of p.built) j x ≡ x → bytes_eq x.id.now id ≡ true → parser_of x ≡ q
    parser_is j x lt at same = elim (cases_lt j (length (args_of c))) [
      | inl under ↦
          let s : SameRules (slice_index_or (args_of c) j x) x = subst (λ (w : Arg). SameRules (slice_index_or (args_of c) j x) w) at (p.from.kept j x under).1 in
          let old : bytes_eq (slice_index_or (args_of c) j x).id.now id ≡ true = subst (λ (b : Bor Text). bytes_eq b.now id ≡ true) s.id same in
          ap parser_of_value (s.parser q (rule_at (HasParser id q) all j x under old))
      | inr over ↦
          let x_id : x.id.now ≡ id = (bytes_eq-Decides x.id.now id).0 same in
          let auto : IsAuto x = subst IsAuto at (p.from.extra j x over lt) in
          absurd (elim auto [ inl h ↦ own.1 (sym x_id ∙ h) | inr h ↦ own.2 (sym x_id ∙ h) ])
    ]

    first_value_is : (t : Text) (e : Entry) (vs : List (Bor Text)) → e.0.now ≡ id → e.1.reading ≡ reading_of q → All (λ v. PassesArg p.built e.0.now v.now) vs
        → option_map (λ s. read_as e.1.reading s.now) (slice_get vs 0) ≡ Some t → PassedAs q t
    first_value_is t e [] key how pass is_t = cc
    first_value_is t e (v ∷ vs) key how pass is_t =
        let any = pass 0 v (omega arith) in
        let same : bytes_eq any.1.id.now id ≡ true = subst (λ (w : Text). bytes_eq any.1.id.now w ≡ true) key any.4.0 in
        let accepted = subst (λ (w : ValueParser). Accepts any.1.ignore_case w v.now) (parser_is any.0 any.1 any.2 any.3 same) any.4.1 in
        let text_is : read_as e.1.reading v.now ≡ t = ap (λ o. unwrap_or o t) is_t in
        (v.now, any.1.ignore_case, sym text_is ∙ ap (λ r. read_as r v.now) how, accepted)

    entry_is : (t : Text) (e : Entry) → e.0.now ≡ id → EntryPasses p.built e
        → option_map (λ s. read_as e.1.reading s.now) (slice_get e.1.vals.items 0) ≡ Some t → PassedAs q t
    entry_is t e key pass is_t =
        let no_group : e.1.is_group ≡ true → ⊥ = λ g. elim (pass.3 g) [
          | inl empty ↦ own.0 (sym key ∙ empty)
          | inr lots ↦
              let len : length (groups_of p.built) ≡ 0 = ap length no_groups in
              omega (arith, len, lots)
        ] in
        let how : e.1.reading ≡ reading_of q = elim pass.4 [
          | inl g ↦ absurd (no_group g)
          | inr h ↦
              let same : bytes_eq h.1.id.now id ≡ true = subst (λ (w : Text). bytes_eq h.1.id.now w ≡ true) key h.4.0 in
              sym h.4.1 ∙ ap reading_of (parser_is h.0 h.1 h.2 h.3 same)
        ] in
        elim pass.0 [
          | inl g ↦ absurd (no_group g)
          | inr vals ↦ first_value_is t e e.1.vals.items key how vals is_t
        ]

    -- the text that is read of this id passed this parser
    reads : (t : Text) → one_text (found_of m) id ≡ Some t → PassedAs q t
    reads t found = go (matched_of (found_of m) id) refl found
      where
        go : (o : Option MatchedArg) → matched_of (found_of m) id ≡ o
            → option_and_then (λ (a : MatchedArg). option_map (λ s. read_as a.reading s.now) (slice_get a.vals.items 0)) o ≡ Some t → PassedAs q t
        go None e h = cc
        go (Some a) e h =
            let got = entry_by_id (EntryPasses p.built) (found_of m).entries.items id a parsed_is.values e in
            let key : got.0.0.now ≡ id = (bytes_eq-Decides got.0.0.now id).0 got.2 in
            entry_is t got.0 key got.3 (subst (λ (x : MatchedArg). option_map (λ s. read_as x.reading s.now) (slice_get x.vals.items 0) ≡ Some t) (sym got.1) h)

module _ (E : Type 0) (G : Text → Result ℕ E → Type 0) (k : ℕ) (only : (u : Text) (x : Result ℕ E) → G u x → ParsesUnsigned k 10 u x) (low high default : ℕ) where
  -- the number that `get_one` reads of a text that passed a range
  number_read : (o : Option Text) (r : Option ℕ) → high < 2 ^ k → low ≤ default → default ≤ high
      → (o ≡ None → r ≡ None) → ((t : Text) → o ≡ Some t → ReadsOne G t r)
      → ((t : Text) → o ≡ Some t → PassedAs (vp.Signed (pos low) (pos high)) t)
      → (unwrap_or r default ≡ option_map_or decimal o default) × (low ≤ unwrap_or r default) × (unwrap_or r default ≤ high)
  number_read None r fits above below none value passed = rw (none refl) (refl, above, below)
  number_read (Some t) r fits above below none value passed =
      let one = value t refl in
      let pass = passed t refl in
      let got = signed_reads E G k low high pass.0 r (subst (λ u. ReadsOne G u r) pass.2 one) only fits pass.3 in
      let parse = only t (Ok got.0) (subst (ReadsOne G t) got.1 one) in
      rw got.1 (parse.1, got.2, got.3)

  pub number_is : (m : ArgMatches) (words : List Text) → IsParseOf betr m → rows_of (found_of m) ≡ rows words
      → (id : Text) → has_option (is_range low high) id ≡ true
      → (r : Option ℕ) → high < 2 ^ k → low ≤ default → default ≤ high
      → (one_text (found_of m) id ≡ None → r ≡ None) → ((t : Text) → one_text (found_of m) id ≡ Some t → ReadsOne G t r)
      → (unwrap_or r default ≡ number id default words) × IsInRange low high (unwrap_or r default)
  number_is m words parse same id listed r fits above below none value =
      let parts = and_parts _ _ listed in
      let own = own_from id parts.0 in
      let all = parser_from (is_range low high) (vp.Signed (pos low) (pos high)) (range_from low high) id parts.1 in
      let got = number_read (one_text (found_of m) id) r fits above below none value (reads parse.0 m parse.1 parse.2 id (vp.Signed (pos low) (pos high)) own all) in
      (got.0 ∙ ap (λ o. option_map_or decimal o default) (one_text-rows (found_of m) id ∙ ap (one_of id) same), (got.1, got.2))

flag_read : (o : Option Text) (b : Bool) → (o ≡ None → b ≡ false) → (o ≡ Some (codes "true") → b ≡ true) → (o ≡ Some (codes "false") → b ≡ false)
    → ((t : Text) → o ≡ Some t → PassedAs vp.Bool t) → b ≡ option_map_or (λ t. bytes_eq t (codes "true")) o false
flag_read None b none on off passed = none refl
flag_read (Some t) b none on off passed =
    let pass = passed t refl in
    elim (or_cases _ _ pass.3) [
      | inl h ↦
          let t_is : t ≡ codes "true" = pass.2 ∙ (bytes_eq-Decides pass.0 (codes "true")).0 h in
          on (ap Some t_is) ∙ sym (ap (λ u. bytes_eq u (codes "true")) t_is)
      | inr h ↦
          let t_is : t ≡ codes "false" = pass.2 ∙ (bytes_eq-Decides pass.0 (codes "false")).0 h in
          off (ap Some t_is) ∙ sym (ap (λ u. bytes_eq u (codes "true")) t_is)
    ]

pub is_on_is : (m : ArgMatches) (words : List Text) → IsParseOf betr m → rows_of (found_of m) ≡ rows words
    → (id : Text) → has_option is_bool id ≡ true → (b : Bool)
    → (one_text (found_of m) id ≡ None → b ≡ false) → (one_text (found_of m) id ≡ Some (codes "true") → b ≡ true)
    → (one_text (found_of m) id ≡ Some (codes "false") → b ≡ false) → b ≡ is_on id words
is_on_is m words parse same id listed b none on off =
    let parts = and_parts _ _ listed in
    let own = own_from id parts.0 in
    let all = parser_from is_bool vp.Bool bool_from id parts.1 in
    flag_read (one_text (found_of m) id) b none on off (reads parse.0 m parse.1 parse.2 id vp.Bool own all)
    ∙ ap (λ o. option_map_or (λ t. bytes_eq t (codes "true")) o false) (one_text-rows (found_of m) id ∙ ap (one_of id) same)
