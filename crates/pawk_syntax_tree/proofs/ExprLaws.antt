-- Both directions, for one expression.
use Rattle.std.proofs.Common.{◌≡◌, ◌≤◌, ℕ, Bool, List, Some, arith, inl}
use Rattle.std.proofs.Math.Dec.{leb-zero}
use Rattle.pawk_lex.specs.Tokens.{Tok}
use Rattle.pawk_syntax_tree.specs.Tree.{Tree}
use Rattle.pawk_syntax_tree.specs.Grammar.{Derives}
use Rattle.pawk_syntax_tree.specs.Canonical.{canon, closing, height}
use Rattle.pawk_syntax_tree.specs.Parse.{expr}
use Rattle.pawk_syntax_tree.proofs.Tokens.{OnFound}
use Rattle.pawk_syntax_tree.proofs.Sound.{sound}
use Rattle.pawk_syntax_tree.proofs.Kept.{kept}
use Rattle.pawk_syntax_tree.proofs.Again.{in_bracket, grade}
use Rattle.pawk_syntax_tree.proofs.TreesAgain.{again}

pub read_is_derived : (depth : ℕ) (c : Bool) (ts rest : List Tok) (a : Tree) → expr depth c 0 ts ≡ Some (a, rest) → Derives c 0 ts rest a
read_is_derived depth c ts rest a e =
    let found : OnFound (λ d end. Derives c 0 ts end d) (Some (a, rest)) = rw e at (sound depth c 0 (inl (omega arith)) ts) in
    found

pub derived_is_read : (c : Bool) (level : ℕ) (ts others rest : List Tok) (a : Tree) → Derives c level ts others a → height a ≤ 200 → expr 1000 c 0 (canon a (closing rest)) ≡ Some (a, closing rest)
derived_is_read c level ts others rest a d low = in_bracket a (again a (kept d)) c 1000 (omega arith) low 0 (leb-zero (grade a)) rest
