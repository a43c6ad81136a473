-- Worked figures: what the rules give in particular cases, as one list under one statement.
-- Unless said, a book has two records, the head is 1, record 1 links to 2, and all else is 0.
use Rattle.std.specs.Prelude.{◌≡◌, ℕ, List, [], ◌∷◌, replicate, ℤ, pos, negsuc, Ok, Err, Result, slice_set}
use Rattle.std.specs.List.{AllByRecursion}
use Rattle.reversible.specs.Machine.{Dir, fwd, bwd, run, after}
use Rattle.reversible.specs.Ledger.{Call, load, apply, back, look, Answer, success, refusal, seen, accepted, plays, ledger_call, open_ledger}
use Rattle.rules.specs.Kinds.{code}
use Rattle.rules.specs.Word.{operate}
use Rattle.rules.specs.Script.{Script, turned}
use Rattle.rules.specs.Check.{checked}
use Rattle.rules.specs.Run.{machine, numbers}
use Rattle.rules.specs.Ledger.{screen_rules}
use Rattle.rules.specs.declared.Kind.{Kind}
use Rattle.rules.specs.declared.Kind.TheVariants.{Begin, End, Add, Subtract, If, Fi, From, Until, Local, Delocal, New, Swap, Call as CallLine}
use Rattle.rules.specs.declared.Place.{Place}
use Rattle.rules.specs.declared.Place.TheVariants.{None, M, R, F, V}
use Rattle.rules.specs.declared.Line.{Line}
use Rattle.rules.specs.declared.Term.{Term}
use Rattle.rules.specs.declared.Refusal.{Refusal}
use Rattle.rules.specs.declared.Refusal.TheVariants.{ZeroDivisor, NothingStands}

-- ---- lines and terms

abbrev pub bare : Kind → ℕ → Line
bare k q = record { kind = code k; x = None; y = None; q = q; first = 0; count = 0 }

abbrev pub begin : ℕ → Line
begin q = bare Begin q

abbrev pub end : ℕ → Line
end q = bare End q

-- a line of a place and an expression
abbrev pub on : Kind → Place → ℕ → ℕ → Line
on k x first count = record { kind = code k; x = x; y = None; q = 0; first = first; count = count }

-- a line of two places and a method
abbrev pub over : Kind → Place → Place → ℕ → Line
over k x y q = record { kind = code k; x = x; y = y; q = q; first = 0; count = 0 }

abbrev pub number : ℤ → Term
number z = record { kind = 0; number = z; first = None; second = None }

abbrev pub place : Place → Term
place p = record { kind = 1; number = pos 0; first = p; second = None }

abbrev pub operator : ℕ → Term
operator k = record { kind = k; number = pos 0; first = None; second = None }

-- the numbers of some operators
abbrev pub plus : ℕ
plus = 4

abbrev pub times : ℕ
times = 7

abbrev pub quotient : ℕ
quotient = 8

abbrev pub remainder : ℕ
remainder = 9

abbrev pub equals : ℕ
equals = 16

abbrev pub script : List Line → List Term → Script
script ls ts = record { lines = ls; terms = ts }

-- ---- books

-- a book with some words changed
abbrev pub marked : List (ℕ × ℤ) → List ℤ → List ℤ
marked [] b = b
marked (p ∷ ps) b = marked ps (slice_set b p.0 p.1)

abbrev pub book : List (ℕ × ℤ) → List ℤ
book ps = marked ps (slice_set (slice_set (replicate 97 (pos 0)) 0 (pos 1)) 88 (pos 2))

-- the words of m1, r1, r2 and of the head
abbrev pub m1 : ℤ → ℕ × ℤ
m1 v = (1, v)

abbrev pub r1 : ℤ → ℕ × ℤ
r1 v = (65, v)

abbrev pub r2 : ℤ → ℕ × ℤ
r2 v = (66, v)

abbrev pub head : ℤ → ℕ × ℤ
head v = (0, v)

-- the link of record 1, its f3
abbrev pub link1 : ℤ → ℕ × ℤ
link1 v = (88, v)

-- ---- scripts

abbrev pub add_five : Script
add_five = script (begin 0 ∷ on Add (M 1) 0 1 ∷ end 0 ∷ []) (number (pos 5) ∷ [])

abbrev pub idle : Script
idle = script (begin 0 ∷ end 0 ∷ []) []

-- from m1 = 0, add m1 1, until m1 = 3
abbrev pub loop : Script
loop =
    script (begin 0 ∷ on From None 0 3 ∷ on Add (M 1) 3 1 ∷ on Until None 4 3 ∷ end 0 ∷ [])
    (place (M 1) ∷ number (pos 0) ∷ operator equals ∷ number (pos 1) ∷ place (M 1) ∷ number (pos 3) ∷ operator equals ∷ [])

-- from m1 = 3, subtract m1 1, until m1 = 0
abbrev pub loop_turned : List Line
loop_turned = begin 0 ∷ on From None 4 3 ∷ on Subtract (M 1) 3 1 ∷ on Until None 0 3 ∷ end 0 ∷ []

-- add m1 5, from 0, until 1
abbrev pub blocked : Script
blocked =
    script (begin 0 ∷ on Add (M 1) 0 1 ∷ on From None 1 1 ∷ on Until None 2 1 ∷ end 0 ∷ [])
    (number (pos 5) ∷ number (pos 0) ∷ number (pos 1) ∷ [])

abbrev pub new_one : Script
new_one = script (begin 0 ∷ over New (R 1) None 0 ∷ end 0 ∷ []) []

-- call 1 on r1, with this line as the body of method 1
abbrev pub call_on : Line → Script
call_on l = script (begin 0 ∷ over CallLine None (R 1) 1 ∷ end 0 ∷ begin 1 ∷ l ∷ end 1 ∷ []) []

abbrev pub endless : Script
endless = script (begin 0 ∷ over CallLine None None 0 ∷ end 0 ∷ []) []

-- from 1, add m1 1, until m1 = 3: the entry test holds in later rounds too
abbrev pub reentered : Script
reentered =
    script (begin 0 ∷ on From None 0 1 ∷ on Add (M 1) 0 1 ∷ on Until None 1 3 ∷ end 0 ∷ [])
    (number (pos 1) ∷ place (M 1) ∷ number (pos 3) ∷ operator equals ∷ [])

-- local 0, add v0 1, delocal 0
abbrev pub unequal : Script
unequal =
    script (begin 0 ∷ on Local None 0 1 ∷ on Add (V 0) 1 1 ∷ on Delocal None 0 1 ∷ end 0 ∷ [])
    (number (pos 0) ∷ number (pos 1) ∷ [])

-- if 1, add m1 1, fi 1 / m1: the second test makes sense only after the addition
abbrev pub later : Script
later =
    script (begin 0 ∷ on If None 0 1 ∷ on Add (M 1) 0 1 ∷ on Fi None 0 3 ∷ end 0 ∷ [])
    (number (pos 1) ∷ place (M 1) ∷ operator quotient ∷ [])

-- ---- figures

-- a run of method 0 from a book: the three numbers, and the words that it changes
pub record Case : Type 0 where
  pub script : Script
  pub dir : Dir
  pub budget : ℕ
  pub before : List ℤ
  pub answer : ℕ × ℕ × ℕ
  pub changes : List (ℕ × ℤ)

abbrev pub case : Script → Dir → ℕ → List ℤ → ℕ × ℕ × ℕ → List (ℕ × ℤ) → Case
case sc d n b a cs = record { script = sc; dir = d; budget = n; before = b; answer = a; changes = cs }

pub data Figure : Type 0 where
  -- an operator at two words
  operation : ℕ → ℤ → ℤ → Result ℤ Refusal → Figure
  running : Case → Figure
  turning : Script → List Line → Figure
  -- calls on a newly opened screen over a book, and their answers
  calling : List ℤ → List (Call Script) → List (Answer ℤ Refusal) → Figure

-- the script is accepted, and the run gives these numbers and the book with just these words changed
pub record Runs (c : Case) : Type 0 where
  pub allowed : checked c.script ≡ accepted
  pub numbered : numbers (run (machine c.script) 0 c.dir c.before c.budget) ≡ c.answer
  pub leaves : after (run (machine c.script) 0 c.dir c.before c.budget) ≡ marked c.changes c.before

abbrev pub Holds : Figure → Type 0
Holds (operation k a b r) = operate k a b ≡ r
Holds (running c) = Runs c
Holds (turning sc ls) = turned sc.lines ≡ ls
Holds (calling b cs answers) = (plays (ledger_call screen_rules) (open_ledger screen_rules b) cs).0 ≡ answers

abbrev pub figures : List Figure
figures =
    operation plus (pos 2147483647) (pos 1) (Ok (negsuc 2147483647))
    ∷ operation quotient (negsuc 6) (pos 2) (Ok (negsuc 2))
    ∷ operation remainder (negsuc 6) (pos 2) (Ok (negsuc 0))
    ∷ operation quotient (negsuc 2147483647) (negsuc 0) (Ok (negsuc 2147483647))
    ∷ operation quotient (pos 5) (pos 0) (Err ZeroDivisor)
    ∷ running (case add_five fwd 1 (book (m1 (pos 7) ∷ [])) (0, 0, 1) (m1 (pos 12) ∷ []))
    ∷ running (case add_five fwd 0 (book (m1 (pos 7) ∷ [])) (18, 1, 0) [])
    ∷ running (case idle fwd 0 (book []) (0, 0, 0) [])
    ∷ running (case loop fwd 4294967295 (book []) (0, 0, 7) (m1 (pos 3) ∷ []))
    ∷ running (case loop bwd 7 (book (m1 (pos 3) ∷ [])) (0, 0, 7) (m1 (pos 0) ∷ []))
    ∷ calling (book []) (load loop ∷ apply 0 7 ∷ look 1 ∷ back ∷ look 1 ∷ back ∷ [])
    (success 0 ∷ success 7 ∷ seen (Ok (pos 3)) ∷ success 7 ∷ seen (Ok (pos 0)) ∷ refusal NothingStands 0 0 ∷ [])
    ∷ running (case loop fwd 4294967295 (book (m1 (pos 1) ∷ [])) (10, 1, 0) [])
    ∷ turning loop loop_turned
    ∷ running (case blocked fwd 4294967295 (book (m1 (pos 7) ∷ [])) (10, 2, 1) [])
    ∷ running (case new_one fwd 4294967295 (book []) (0, 0, 1) (r1 (pos 1) ∷ head (pos 2) ∷ link1 (pos 0) ∷ []))
    ∷ running (case new_one fwd 4294967295 (replicate 81 (pos 0)) (14, 1, 0) [])
    ∷ running (case (call_on (over New (F 0) None 0)) fwd 4294967295 (book (r1 (pos 1) ∷ [])) (15, 4, 1) [])
    ∷ running (case (call_on (over Swap (R 1) (R 2) 0)) fwd 4294967295 (book (r1 (pos 1) ∷ r2 (pos 2) ∷ [])) (16, 5, 2) [])
    ∷ running (case endless fwd 64 (book []) (18, 1, 64) [])
    ∷ running (case endless fwd 65 (book []) (17, 1, 64) [])
    ∷ []

abbrev pub Figures : Type 0
Figures = AllByRecursion Holds figures

-- further figures, each of which a likely error would change: a loop that forgets its entry test in later rounds, a call turned
-- into an uncall, a delocal that does not compare, a test worked out too early; least and greatest words
abbrev pub edges : List Figure
edges =
    running (case reentered fwd 4294967295 (book []) (10, 3, 2) [])
    ∷ turning endless endless.lines
    ∷ running (case unequal fwd 4294967295 (book []) (10, 3, 2) [])
    ∷ running (case later fwd 4294967295 (book []) (0, 0, 3) (m1 (pos 1) ∷ []))
    ∷ running (case later bwd 4294967295 (book (m1 (pos 1) ∷ [])) (0, 0, 3) (m1 (pos 0) ∷ []))
    ∷ operation remainder (negsuc 2147483647) (negsuc 0) (Ok (pos 0))
    ∷ operation remainder (pos 5) (pos 0) (Err ZeroDivisor)
    ∷ operation times (pos 65536) (pos 32768) (Ok (negsuc 2147483647))
    ∷ []

abbrev pub Edges : Type 0
Edges = AllByRecursion Holds edges
