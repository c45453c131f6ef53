-- The trees that the matcher runs as expressions.
use Rattle.pawk_ere_automaton.specs.declared.node.Node.{Node}
use Rattle.pawk_ere_automaton.specs.declared.node.Node.TheVariants as node
use Rattle.pawk_ere_automaton.specs.Members.{members_of}
use Rattle.pawk_ere_automaton.specs.Regex as regex
use Rattle.pawk_ere_automaton.specs.Regex.{Regex, copies}

-- the expression of a tree, without where its parts lie in memory
abbrev pub regex_of : Node → Regex
regex_of node.Empty = regex.Empty
regex_of node.Start = regex.Start
regex_of node.End = regex.End
regex_of (node.Bytes set) = regex.Bytes (members_of set.value)
regex_of (node.Sequence' p a q b) = regex.Sequence (regex_of a) (regex_of b)
regex_of (node.Either' p a q b) = regex.Either (regex_of a) (regex_of b)
regex_of (node.Copies' count p a) = copies count (regex_of a)
regex_of (node.Star' p a) = regex.Star (regex_of a)
regex_of (node.Plus' p a) = regex.Plus (regex_of a)
