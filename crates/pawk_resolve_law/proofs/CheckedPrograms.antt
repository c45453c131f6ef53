-- The code of a program that a text spells.
use Rattle.std.proofs.Common.{◌≡◌, ℕ, suc, true, List, [], ◌∷◌, refl, sym, ap, subst, ◌∙◌, Option}
use Rattle.std.specs.List.{list_all, flat_map}
use Rattle.pawk_lex.specs.Bytes.{Text}
use Rattle.pawk_lex.specs.Canonical.{AreBytes}
use Rattle.pawk_lex.proofs.CutLaws.{cut_writable}
use Rattle.pawk_syntax_tree.specs.Item.{Part, define}
use Rattle.pawk_syntax_tree.specs.ItemCanonical.{AreSoundParts}
use Rattle.pawk_syntax_tree.proofs.ItemKept.{program_kept}
use Rattle.pawk_syntax_show.proofs.WritableProgram.{AreWritableParts, program_writable}
use Rattle.pawk_syntax_check.specs.Mentions.{of_part}
use Rattle.pawk_syntax_check.specs.Functions.{function_of}
use Rattle.pawk_syntax_check.specs.Tables.{Name}
use Rattle.pawk_syntax_check.specs.Demands.{Kinds, meets, demands_of, demands_from, AreKinds, AreKindsOf}
use Rattle.pawk_syntax_check.proofs.Finding.{one_choice}
use Rattle.pawk_syntax_check.specs.Targets.{is_assignable}
use Rattle.pawk_syntax_check.specs.Calls.{is_call}
use Rattle.pawk_syntax_check.specs.Fits.{every_mention}
use Rattle.pawk_syntax_grammar.specs.Expressions.{eres_of_program}
use Rattle.pawk_syntax.specs.Spells.{Spells}
use Rattle.pawk_code.specs.Programs.{Code}
use Rattle.pawk_resolve.specs.Scopes.{Globals}
use Rattle.pawk_resolve.specs.ResolvedPrograms.{global_names, resolved_program}
use Rattle.pawk_resolve_law.proofs.Slashed as slashed
use Rattle.pawk_resolve_program.specs.Codes.{IsCodeOf}
use Rattle.pawk_resolve_law.proofs.Slashed.{of_parts_are}
use Rattle.pawk_resolve_law.specs.Programs.{names_of, heads_of, outline, spelled_program, FitsProgram}
use Rattle.pawk_resolve_law.proofs.Entries.{In, in_front, in_back}
use Rattle.pawk_resolve_law.proofs.KnownItems.{item_proper}
use Rattle.pawk_resolve_law.proofs.KnownNames.{both_of, all_parts, AreEntered, expressions_known, item_scope, IsChecked, item_known}
use Rattle.pawk_resolve_law.proofs.ScopeTables.{entered, expressions_entered, tables}
use Rattle.pawk_resolve_law.proofs.Items.{AreProperItems, items_fit, items_spell, one_program}

module _ (g : Globals) (functions : Text → Option (ℕ × List Text)) (names : List Text) (known : AreEntered g functions names) where
  -- what is asked of items of which the first has this number
  record AreChecked (n : ℕ) (ps : List Part) : Type 0 where
    pub assigned : every_mention (λ p m. is_assignable m) ps ≡ true
    pub called : every_mention (λ p m. is_call functions m) ps ≡ true
    pub met : list_all (meets g.kinds) (demands_from functions n ps) ≡ true
    pub among : (x : Text) → In (flat_map global_names ps) x → In names x
    pub between : (x : Text) → In (slashed.of_parts ps) x → In g.expressions x
    pub sound : AreSoundParts ps
    pub writable : AreWritableParts ps

  first : (n : ℕ) (p : Part) (ps : List Part) → AreChecked n (p ∷ ps) → IsChecked g functions names n p
  first n p ps h = record {
    entered = known;
    assigned = (both_of (list_all is_assignable (of_part p)) (every_mention (λ q m. is_assignable m) ps) h.assigned).0;
    called = (both_of (list_all (is_call functions) (of_part p)) (every_mention (λ q m. is_call functions m) ps) h.called).0;
    met = (all_parts (meets g.kinds) (flat_map (demands_of functions n p) (of_part p)) (demands_from functions (suc n) ps) h.met).0;
    among = λ x i. h.among x (in_front (global_names p) (flat_map global_names ps) x i);
  }

  rest : (n : ℕ) (p : Part) (ps : List Part) → AreChecked n (p ∷ ps) → AreChecked (suc n) ps
  rest n p ps h = record {
    assigned = (both_of (list_all is_assignable (of_part p)) (every_mention (λ q m. is_assignable m) ps) h.assigned).1;
    called = (both_of (list_all (is_call functions) (of_part p)) (every_mention (λ q m. is_call functions m) ps) h.called).1;
    met = (all_parts (meets g.kinds) (flat_map (demands_of functions n p) (of_part p)) (demands_from functions (suc n) ps) h.met).1;
    among = λ x i. h.among x (in_back (global_names p) (flat_map global_names ps) x i);
    between = λ x i. h.between x (in_back (slashed.of_part p) (slashed.of_parts ps) x i);
    sound = h.sound.1;
    writable = h.writable.1;
  }

  same_globals : (n : ℕ) (p : Part) → (item_scope g n p).globals ≡ g
  same_globals n (define f xs a) = refl
  same_globals n _ = refl

  between_in : (n : ℕ) (p : Part) (ps : List Part) → AreChecked n (p ∷ ps) → (x : Text) → In (slashed.of_part p) x → In (item_scope g n p).globals.expressions x
  between_in n p ps h x i =
      subst (λ q. In q.expressions x) (sym (same_globals n p)) (h.between x (in_front (slashed.of_part p) (slashed.of_parts ps) x i))

  items_proper : (n : ℕ) (ps : List Part) → AreChecked n ps → AreProperItems g n ps
  items_proper n [] h = tt
  items_proper n (p ∷ ps) h =
      let s = item_scope g n p in (
        item_proper s p h.sound.0 h.writable.0 (item_known g functions names n p (first n p ps h))
            (expressions_known s (slashed.of_part p) (between_in n p ps h)),
        items_proper (suc n) ps (rest n p ps h),
      )

-- a program that a text spells
program_proper : (text : Text) (ps : List Part) (k : Kinds) → AreBytes text → Spells text ps → AreKinds ps k → AreProperItems (names_of k ps) 1 ps
program_proper text ps k bytes s are =
    items_proper (names_of k ps) (function_of ps) (flat_map global_names ps) (entered k ps) 1 ps (record {
      assigned = s.fits.targets;
      called = s.fits.calls;
      met = are.meets_all;
      among = λ x i. i;
      between = λ x i. expressions_entered k ps x (subst (λ xs. In xs x) (of_parts_are ps) i);
      sound = program_kept s.derived;
      writable = program_writable s.derived (cut_writable bytes s.cut);
    })

pub program_spells : (text : Text) (ps : List Part) (k : Kinds) (c : Code) → AreBytes text → Spells text ps → AreKindsOf ps k → IsCodeOf ps c →
    spelled_program (names_of k ps) (heads_of ps) c ≡ outline ps
program_spells text ps k c bytes s are code =
    ap (spelled_program (names_of k ps) (heads_of ps)) (code k are)
    ∙ items_spell (names_of k ps) ps (program_proper text ps k bytes s are.kinds)

resolved_fits : (text : Text) (ps : List Part) (k : Kinds) → AreBytes text → Spells text ps → AreKindsOf ps k →
    FitsProgram (names_of k ps) (heads_of ps) (resolved_program k (eres_of_program ps) ps)
resolved_fits text ps k bytes s are =
    let held = tables k ps are.kinds s.fits.heads in
    items_fit (names_of k ps) ps held.0 held.1 (program_proper text ps k bytes s are.kinds)

pub program_fits : (text : Text) (ps : List Part) (k : Kinds) (c : Code) → AreBytes text → Spells text ps → AreKindsOf ps k → IsCodeOf ps c →
    FitsProgram (names_of k ps) (heads_of ps) c
program_fits text ps k c bytes s are code =
    subst (FitsProgram (names_of k ps) (heads_of ps)) (sym (code k are)) (resolved_fits text ps k bytes s are)

-- the code is the same by whichever kinds of the program
by_kinds : (ps : List Part) (k other : Kinds) → AreKindsOf ps k → AreKindsOf ps other →
    resolved_program k (eres_of_program ps) ps ≡ resolved_program other (eres_of_program ps) ps
by_kinds ps k other a d i =
    let same : (v : Name) → k v ≡ other v = one_choice ps k other a d in
    resolved_program (λ v. same v i) (eres_of_program ps) ps

pub program_is : (text : Text) (ps : List Part) (k : Kinds) (c : Code) → AreBytes text → Spells text ps → AreKindsOf ps k →
    FitsProgram (names_of k ps) (heads_of ps) c → spelled_program (names_of k ps) (heads_of ps) c ≡ outline ps → IsCodeOf ps c
program_is text ps k c bytes s are fit e other others =
    one_program (names_of k ps) (heads_of ps) c (resolved_program k (eres_of_program ps) ps) fit (resolved_fits text ps k bytes s are)
    (e ∙ sym (items_spell (names_of k ps) ps (program_proper text ps k bytes s are.kinds)))
    ∙ by_kinds ps k other are others
