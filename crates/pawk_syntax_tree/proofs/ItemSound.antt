-- What is read of items is derived.
use Rattle.std.proofs.Common.{◌≡◌, ℕ, zero, suc, Bool, true, false, List, [], ◌∷◌, ◌++◌, length, drop, refl, sym, subst, ◌∙◌, append_assoc, inl, inr}
use Rattle.std.specs.Prelude.{nat_le}
use Rattle.std.proofs.lemmas.Bool.{cases_Bool, false≢true}
use Rattle.std.proofs.lemmas.List.{append-nil}
use Rattle.pawk_lex.specs.declared.token.Mark.{Mark}
use Rattle.pawk_lex.specs.declared.token.Mark.TheVariants as m
use Rattle.pawk_lex.specs.Bytes.{Text}
use Rattle.pawk_lex.specs.Tokens.{Tok}
use Rattle.pawk_lex.specs.Tokens as t
use Rattle.pawk_syntax_tree.specs.Tree.{value}
use Rattle.pawk_syntax_tree.specs.Grammar.{Derives}
use Rattle.pawk_syntax_tree.specs.Parse.{expect, expect_name, sees, skip_lines, after, greatest_height, greatest_depth}
use Rattle.pawk_syntax_tree.proofs.Tokens.{OnFound, on_bind, on_found, Expects, expects, sees_sign, names, skips}
use Rattle.pawk_syntax_tree.specs.Statement.{Stmts}
use Rattle.pawk_syntax_tree.specs.StatementParse.{whole, block, stmt}
use Rattle.pawk_syntax_tree.specs.Item.{Part, begin, end, always, matching, between, define, print_record, height_of_part}
use Rattle.pawk_syntax_tree.specs.ItemGrammar.{Action, an_action, Parameters, last_parameter, a_parameter, AllParameters, no_parameter, some_parameters, Named, by_name, by_call, Is, a_begin, an_end, a_rule, a_pattern, a_bare_pattern, a_range, a_bare_range, a_function, Separators, no_more, a_semicolon, a_newline, Separates, Items, no_item, an_item, Programs, a_program}
use Rattle.pawk_syntax_tree.specs.ItemParse.{action, low_part, with_action, action_or_none, pattern, parameters_from, parameters, function_name, function_on, item_by, item, separates, skip_separators, separated, items_from, program}
use Rattle.pawk_syntax_tree.proofs.StatementSound.{ReadsWhole, sound_whole, sound_block, sound_stmt}

sound_action : (ts : List Tok) → OnFound (λ a rest. Action ts rest a) (action ts)
unfolding action
sound_action ts =
    on_bind (expect m.LeftBrace ts) _ (λ _ rest. Expects m.LeftBrace ts rest) _ (expects m.LeftBrace ts) (λ _ mid e.
    on_bind (block (stmt greatest_depth) mid) _ _ _ (sound_block (stmt greatest_depth) (sound_stmt greatest_depth) mid) (λ xs rest q.
    rw e (an_action q.1 q.2)))

abbrev pub ReadsPart : List Tok → Part × Bool → List Tok → Type 0
ReadsPart ts p rest = Is ts rest p.0 p.1

on_low_part : (closes : Bool) (x : Part) (all ts : List Tok) → Is all ts x closes → OnFound (ReadsPart all) (low_part closes x ts)
unfolding low_part
on_low_part closes x all ts h = elim (cases_Bool (nat_le (height_of_part x) greatest_height)) [ inl e ↦ rw e h | inr e ↦ rw e tt ]

sound_with_action : (make : Stmts → Part) (all ts : List Tok) → ((a : Stmts) (rest : List Tok) → Action ts rest a → Is all rest (make a) true) → OnFound (ReadsPart all) (with_action make ts)
unfolding with_action
sound_with_action make all ts h =
    on_bind (action ts) _ (λ a rest. Action ts rest a) _ (sound_action ts) (λ a rest d. on_low_part true (make a) all rest (h a rest d))

sound_or_none : (make : Stmts → Part) (all ts : List Tok) → ((a : Stmts) (rest : List Tok) → Action ts rest a → Is all rest (make a) true) → Is all ts (make print_record) false → OnFound (ReadsPart all) (action_or_none make ts)
unfolding action_or_none
sound_or_none make all ts h k = elim (cases_Bool (sees m.LeftBrace ts)) [
  | inl e ↦ rw e (sound_with_action make all ts h)
  | inr e ↦ rw e (on_low_part false (make print_record) all ts k)
]

sound_pattern : (ts : List Tok) → OnFound (ReadsPart ts) (pattern ts)
unfolding pattern after
sound_pattern ts =
    on_bind (whole ts) _ (ReadsWhole ts) _ (sound_whole ts) (λ p mid d. elim (cases_Bool (sees m.Comma mid)) [
      | inl e ↦ rw e (
          let from = skip_lines (drop 1 mid) in
          on_bind (whole from) _ (ReadsWhole from) _ (sound_whole from) (λ q rest f.
          let first : Derives true 0 ts (t.mark m.Comma ∷ drop 1 mid) d.0 = rw (sees_sign m.Comma mid e) at d.2 in
          rw (d.1, f.1) (sound_or_none (between (value d.0) (value f.0)) ts rest (λ a end' k. a_range first (skips (drop 1 mid)) f.2 k) (a_bare_range first (skips (drop 1 mid)) f.2))))
      | inr e ↦ rw e (rw d.1 (sound_or_none (matching (value d.0)) ts mid (λ a rest k. a_pattern d.2 k) (a_bare_pattern d.2)))
    ])

record ReadsNames (front : List Text) (ts : List Tok) (all : List Text) (rest : List Tok) : Type 0 where
  others : List Text
  all_is : all ≡ front ++ others
  derives : Parameters ts rest others

sound_from : (n : ℕ) (front : List Text) (ts : List Tok) → OnFound (ReadsNames front ts) (parameters_from n front ts)
unfolding parameters_from after
sound_from zero front ts = tt
sound_from (suc n) front ts =
    on_bind (expect_name ts) _ (λ x end'. ts ≡ t.name x ∷ end') _ (names ts) (λ x mid e. elim (cases_Bool (sees m.Comma mid)) [
      | inl f ↦ rw f (on_found (parameters_from n (front ++ x ∷ []) (skip_lines (drop 1 mid))) (sound_from n (front ++ x ∷ []) (skip_lines (drop 1 mid))) (λ all rest q.
          record { others = x ∷ q.others; all_is = q.all_is ∙ append_assoc front (x ∷ []) q.others; derives = rw (e, sees_sign m.Comma mid f) (a_parameter (skips (drop 1 mid)) q.derives) }))
      | inr f ↦ rw f (on_bind (expect m.RightParenthesis mid) _ (λ _ rest. Expects m.RightParenthesis mid rest) _ (expects m.RightParenthesis mid) (λ _ rest g.
          record { others = x ∷ []; all_is = refl; derives = rw (e, g) last_parameter }))
    ])

sound_parameters : (ts : List Tok) → OnFound (λ ps rest. AllParameters ts rest ps) (parameters ts)
unfolding parameters after
sound_parameters ts = elim (cases_Bool (sees m.RightParenthesis ts)) [
  | inl e ↦ rw e (rw (sees_sign m.RightParenthesis ts e) no_parameter)
  | inr e ↦ rw e (on_found (parameters_from (length ts) [] ts) (sound_from (length ts) [] ts) (λ ps rest q. rw q.all_is (some_parameters q.derives)))
]

record ReadsNamed (ts : List Tok) (f : Text) (rest : List Tok) : Type 0 where
  head : Tok
  cut : ts ≡ head ∷ rest
  is : Named head f

sound_function_name : (ts : List Tok) → OnFound (ReadsNamed ts) (function_name ts)
unfolding function_name
sound_function_name [] = tt
sound_function_name (t.name x ∷ ts) = record { head = t.name x; cut = refl; is = by_name }
sound_function_name (t.function_name x ∷ ts) = record { head = t.function_name x; cut = refl; is = by_call }
sound_function_name (_ ∷ ts) = tt

sound_function_on : (ts : List Tok) → OnFound (ReadsPart (t.mark m.Function ∷ ts)) (function_on ts)
unfolding function_on
sound_function_on ts =
    on_bind (function_name ts) _ (ReadsNamed ts) _ (sound_function_name ts) (λ f one' d.
    on_bind (expect m.LeftParenthesis one') _ (λ _ rest. Expects m.LeftParenthesis one' rest) _ (expects m.LeftParenthesis one') (λ _ two e.
    on_bind (parameters two) _ (λ ps rest. AllParameters two rest ps) _ (sound_parameters two) (λ ps three q.
    rw (d.cut, e) (sound_with_action (define f ps) (t.mark m.Function ∷ d.head ∷ t.mark m.LeftParenthesis ∷ two) (skip_lines three) (λ a rest k. a_function d.is q (skips three) k)))))

sound_item_by : (s : Mark) (ts : List Tok) → OnFound (ReadsPart (t.mark s ∷ ts)) (item_by s (t.mark s ∷ ts))
sound_item_by m.Begin ts = sound_with_action begin (t.mark m.Begin ∷ ts) ts (λ a rest k. a_begin k)
sound_item_by m.End ts = sound_with_action end (t.mark m.End ∷ ts) ts (λ a rest k. an_end k)
sound_item_by m.LeftBrace ts = sound_with_action always (t.mark m.LeftBrace ∷ ts) (t.mark m.LeftBrace ∷ ts) (λ a rest k. a_rule k)
sound_item_by m.Function ts = sound_function_on ts
sound_item_by s ts = sound_pattern (t.mark s ∷ ts)

sound_item : (ts : List Tok) → OnFound (ReadsPart ts) (item ts)
unfolding item
sound_item [] = tt
sound_item (t.mark s ∷ ts) = sound_item_by s ts
sound_item (x ∷ ts) = sound_pattern (x ∷ ts)

-- ---- between items

sound_skip : (ts : List Tok) → Separators ts (skip_separators ts)
unfolding skip_separators separates
sound_skip [] = no_more
sound_skip (x ∷ ts) = elim (cases_Bool (sees m.Semicolon (x ∷ ts))) [
  | inl e ↦ rw e (rw (sees_sign m.Semicolon (x ∷ ts) e) (a_semicolon (sound_skip ts)))
  | inr e ↦ rw e (elim (cases_Bool (sees m.Newline (x ∷ ts))) [
    | inl f ↦ rw f (rw (sees_sign m.Newline (x ∷ ts) f) (a_newline (sound_skip ts)))
    | inr f ↦ rw f no_more
  ])
]

separates_false : (x : Tok) (ts : List Tok) → separates (x ∷ ts) ≡ true → Separates false (x ∷ ts) (skip_separators ts)
unfolding separates
separates_false x ts e = elim (cases_Bool (sees m.Semicolon (x ∷ ts))) [
  | inl f ↦ let P : List Tok → Type 0 = λ z. Separates false z (skip_separators ts) in subst P (sym (sees_sign m.Semicolon (x ∷ ts) f)) (sound_skip ts)
  | inr f ↦ elim (cases_Bool (sees m.Newline (x ∷ ts))) [
    | inl g ↦ let P : List Tok → Type 0 = λ z. Separates false z (skip_separators ts) in subst P (sym (sees_sign m.Newline (x ∷ ts) g)) (sound_skip ts)
    | inr g ↦ absurd (false≢true (rw (f, g) at e))
  ]
]

sound_separated : (closes : Bool) (ts : List Tok) → OnFound (λ _ rest. Separates closes ts rest) (separated closes ts)
unfolding separated skip_separators
sound_separated true ts = sound_skip ts
sound_separated false [] = refl
sound_separated false (x ∷ ts) = elim (cases_Bool (separates (x ∷ ts))) [
  | inl e ↦ rw e (separates_false x ts e)
  | inr e ↦ rw e tt
]

record ReadsItems (front : List Part) (ts : List Tok) (all : List Part) (rest : List Tok) : Type 0 where
  others : List Part
  all_is : all ≡ front ++ others
  derives : Items ts others
  ended : rest ≡ []

sound_items : (n : ℕ) (front : List Part) (ts : List Tok) → OnFound (ReadsItems front ts) (items_from n front ts)
unfolding items_from
sound_items zero front ts = tt
sound_items (suc n) front [] = record { others = []; all_is = sym (append-nil front); derives = no_item; ended = refl }
sound_items (suc n) front (x ∷ ts) =
    on_bind (item (x ∷ ts)) _ (ReadsPart (x ∷ ts)) _ (sound_item (x ∷ ts)) (λ p mid d.
    on_bind (separated p.1 mid) _ (λ _ rest. Separates p.1 mid rest) _ (sound_separated p.1 mid) (λ _ rest e.
    on_found (items_from n (front ++ p.0 ∷ []) rest) (sound_items n (front ++ p.0 ∷ []) rest) (λ all stop q.
    record { others = p.0 ∷ q.others; all_is = q.all_is ∙ append_assoc front (p.0 ∷ []) q.others; derives = an_item d e q.derives; ended = q.ended })))

pub sound_program : (ts : List Tok) → OnFound (λ xs rest. Programs ts xs × (rest ≡ [])) (program ts)
unfolding program
sound_program ts =
    let from = skip_lines ts in
    on_found (items_from (suc (length from)) [] from) (sound_items (suc (length from)) [] from) (λ xs rest q. (a_program (skips ts) (rw q.all_is q.derives), q.ended))
