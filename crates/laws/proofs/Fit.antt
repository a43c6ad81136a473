-- What every state of a run of an allowed script keeps.
use Rattle.std.proofs.Common.{◌≡◌, ℕ, suc, ◌+◌, ◌-◌, ◌/◌, ◌<◌, ◌≤◌, Bool, true, false, cond, not, ◌⊎◌, List, [], ◌∷◌, length, ℤ, pos, Ok, sym, refl, ap, ◌∙◌, subst, arith, length-set}
use Rattle.std.specs.List.{AllByRecursion}
use Rattle.std.proofs.lemmas.Bool.{and_parts, and_from}
use Rattle.rules.specs.Book.{records, fits, all_words, is_book}
use Rattle.rules.specs.Script.{Script, line_at, is_none, turned_kind, terms_of}
use Rattle.rules.specs.Check.{depth, checked}
use Rattle.rules.specs.Step.{State, base, past, met, turn_of, across, read, see, value, put_book, put_locals}
use Rattle.rules.specs.declared.Frame.{Frame}
use Rattle.rules.specs.declared.Spot.{Spot}
use Rattle.rules.specs.declared.Spot.TheVariants.{InBook, InLocals}
use Rattle.rules.specs.declared.Line.{Line}
use Rattle.rules.specs.declared.Place.{Place}
use Rattle.laws.proofs.Chains.{passed, ok_same}
use Rattle.laws.proofs.Back.{At}
use Rattle.laws.proofs.Turning.{turned_twice}
use Rattle.laws.proofs.Stack.{stack_at}
use Rattle.laws.proofs.Inside.{In, in_after, in_before, depth_same, depth_local, depth_delocal, stack_next, in_range}
use Rattle.laws.proofs.Methods.{block, found}
use Rattle.laws.proofs.Values.{IsWord, words_from, words_to, all_at, all_set, worked_word, zero_word}
use Rattle.reversible.specs.Ledger.{accepted}

-- the direction, by the frames
abbrev pub way : Script → Bool → List Frame → Bool
way sc d [] = d
way sc d (f ∷ fs) = across (line_at sc.lines f.line).kind (way sc d fs)

module _ (sc : Script) (q : ℕ) where
  -- the method that the state is in, by the frames
  abbrev pub cur : List Frame → ℕ
  cur [] = q
  cur (f ∷ fs) = (line_at sc.lines f.line).q

  -- a frame over others, under the present record k, in a book of R records
  pub record Link (R : ℕ) (f : Frame) (fs : List Frame) (k : ℕ) : Type 0 where
    pub inside : f.line < length sc.lines
    pub calls : ((line_at sc.lines f.line).kind ≡ 16) ⊎ ((line_at sc.lines f.line).kind ≡ 17)
    pub within : In (cur fs) (stack_at sc.lines f.line)
    pub counts : f.count ≡ base fs + depth (stack_at sc.lines f.line)
    pub few : length fs < 64
    pub same : is_none (line_at sc.lines f.line).y ≡ true → k ≡ f.former
    pub real : is_none (line_at sc.lines f.line).y ≡ false → (0 < k) × (k ≤ R)

  abbrev pub Chain : ℕ → List Frame → ℕ → Type 0
  Chain R [] k = k ≡ 0
  Chain R (f ∷ fs) k = Link R f fs k × Chain R fs f.former

  -- the present record is none or one of the book's
  pub present_in : (R : ℕ) (fs : List Frame) (k : ℕ) → Chain R fs k → k ≤ R
  present_in R [] k h = omega arith
  present_in R (f ∷ fs) k h = by (is_none (line_at sc.lines f.line).y) refl (present_in R fs f.former h.1)
    where
      by : (b : Bool) → is_none (line_at sc.lines f.line).y ≡ b → f.former ≤ R → k ≤ R
      by true e l = let z = h.0.same e in omega arith
      by false e l = (h.0.real e).1

module _ (sc : Script) (q : ℕ) (d : Bool) where
  pub record Fit (s : State) : Type 0 where
    pub high : s.position ≤ length sc.lines
    pub within : In (cur sc q s.frames) (stack_at sc.lines s.position)
    pub heads : s.forward ≡ way sc d s.frames
    pub deep : length s.locals ≡ base s.frames + depth (stack_at sc.lines s.position)
    pub few : length s.locals ≤ 256
    pub chain : Chain sc q (records s.book) s.frames s.present
    pub book : is_book s.book ≡ true
    pub words : AllByRecursion IsWord s.locals

  -- a state with other words, as many, at another position of the method
  pub keep : (s : State) → Fit s → (p : ℕ) (lc bk : List ℤ) → p ≤ length sc.lines → In (cur sc q s.frames) (stack_at sc.lines p)
      → length lc ≡ base s.frames + depth (stack_at sc.lines p) → length lc ≤ 256 → length bk ≡ length s.book → AllByRecursion IsWord lc → AllByRecursion IsWord bk
      → Fit (record { position = p; forward = s.forward; present = s.present; locals = lc; frames = s.frames; book = bk })
  keep s F p lc bk high within deep few same words ws =
      record {
        high = high;
        within = within;
        heads = F.heads;
        deep = deep;
        few = few;
        chain = subst (λ n. Chain sc q ((n - 81) / 8) s.frames s.present) (sym same) F.chain;
        book = and_from (fits (length bk)) (all_words bk) (sized same (and_parts (fits (length s.book)) (all_words s.book) F.book).0) (words_to bk ws);
        words = words;
      }
    where
      sized : length bk ≡ length s.book → fits (length s.book) ≡ true → fits (length bk) ≡ true
      sized e h = rw e h

  pub book_words : (s : State) → Fit s → AllByRecursion IsWord s.book
  book_words s F = words_from s.book (and_parts (fits (length s.book)) (all_words s.book) F.book).1

  pub read_word : (s : State) → Fit s → (u : Spot) → IsWord (read s u)
  read_word s F (InBook w) = all_at IsWord s.book w (pos 0) (book_words s F) zero_word
  read_word s F (InLocals i) = all_at IsWord s.locals i (pos 0) F.words zero_word

  see_word : (s : State) → Fit s → (p : Place) (v : ℤ) → see s p ≡ Ok v → IsWord v
  see_word s F p v e = passed _ _ e λ u at last. subst IsWord (ok_same last) (read_word s F u)

  pub value_word : (s : State) → Fit s → (l : ℕ) (v : ℤ) → value sc s l ≡ Ok v → IsWord v
  value_word s F l v e = worked_word (see s) (see_word s F) (terms_of sc.terms (line_at sc.lines l)) [] v tt e

-- ---- spots

pub put_book_length : (u : Spot) (v : ℤ) (b : List ℤ) → length (put_book u v b) ≡ length b
put_book_length (InBook w) v b = length-set b w v
put_book_length (InLocals i) v b = refl

pub put_locals_length : (u : Spot) (v : ℤ) (b : List ℤ) → length (put_locals u v b) ≡ length b
put_locals_length (InBook w) v b = refl
put_locals_length (InLocals i) v b = length-set b i v

pub put_book_words : (u : Spot) (v : ℤ) (b : List ℤ) → IsWord v → AllByRecursion IsWord b → AllByRecursion IsWord (put_book u v b)
put_book_words (InBook w) v b e h = all_set IsWord b w v h e
put_book_words (InLocals i) v b e h = h

pub put_locals_words : (u : Spot) (v : ℤ) (b : List ℤ) → IsWord v → AllByRecursion IsWord b → AllByRecursion IsWord (put_locals u v b)
put_locals_words (InBook w) v b e h = h
put_locals_words (InLocals i) v b e h = all_set IsWord b i v h e

-- ---- past a line

pub kind_of_lem : (fw : Bool) (kind k : ℕ) → met fw kind ≡ k → kind ≡ met fw k
kind_of_lem true kind k h = h
kind_of_lem false kind k h = sym (turned_twice kind) ∙ ap turned_kind h

module _ (sc : Script) (ok : checked sc ≡ accepted) (l : ℕ) (inside : l < length sc.lines) where
  abbrev st : ℕ → List Line
  st = stack_at sc.lines

  abbrev ln : Line
  ln = line_at sc.lines l

  pub pass : (fw : Bool) (k m : ℕ) → met fw ln.kind ≡ k → (k ≡ 0 → ⊥) → (k ≡ 1 → ⊥) → In m (st (past (not fw) l)) → In m (st (past fw l))
  pass true k m h n o i = subst (In m) (sym (stack_next sc.lines l inside)) (in_after m (st l) ln (found sc ok l inside).nested i (λ e. o (sym h ∙ e)))
  pass false k m h n o i =
      in_before m (st l) ln (found sc ok l inside).nested (subst (In m) (stack_next sc.lines l inside) i) (λ e. o (sym h ∙ ap turned_kind e)) (λ e. n (sym h ∙ ap turned_kind e))

  pub pass_depth : (fw : Bool) (k : ℕ) → met fw ln.kind ≡ k → (k ≡ 8 → ⊥) → (k ≡ 9 → ⊥) → depth (st (past fw l)) ≡ depth (st (past (not fw) l))
  pass_depth true k h n o = ap depth (stack_next sc.lines l inside) ∙ depth_same (st l) ln (found sc ok l inside).nested (λ e. n (sym h ∙ e)) (λ e. o (sym h ∙ e))
  pass_depth false k h n o =
      sym (ap depth (stack_next sc.lines l inside) ∙ depth_same (st l) ln (found sc ok l inside).nested (λ e. o (sym h ∙ ap turned_kind e)) (λ e. n (sym h ∙ ap turned_kind e)))

  pub opens_depth : (fw : Bool) → met fw ln.kind ≡ 8 → depth (st (past fw l)) ≡ suc (depth (st (past (not fw) l)))
  opens_depth true h = ap depth (stack_next sc.lines l inside) ∙ depth_local (st l) ln h
  opens_depth false h =
      depth_delocal (st l) ln (found sc ok l inside).nested (kind_of_lem false ln.kind 8 h) ∙ ap (λ x. suc (depth x)) (sym (stack_next sc.lines l inside))

  pub closes_depth : (fw : Bool) → met fw ln.kind ≡ 9 → depth (st (past (not fw) l)) ≡ suc (depth (st (past fw l)))
  closes_depth true h = depth_delocal (st l) ln (found sc ok l inside).nested h ∙ ap (λ x. suc (depth x)) (sym (stack_next sc.lines l inside))
  closes_depth false h = ap depth (stack_next sc.lines l inside) ∙ depth_local (st l) ln (kind_of_lem false ln.kind 9 h)

  pub past_high : (fw : Bool) → past fw l ≤ length sc.lines
  past_high true = omega arith
  past_high false = omega arith

-- ---- the line whose turn it is

module _ (sc : Script) (ok : checked sc ≡ accepted) (q : ℕ) (d : Bool) (s : State) (F : Fit sc q d s) where
  pub turn_at : At (turn_of s) s
  turn_at = by s.forward s.position (in_range sc.lines (block sc ok) _ s.position F.high F.within).0
    where
      by : (fw : Bool) (p : ℕ) → 0 < p → p ≡ past (not fw) (cond fw p (p - 1))
      by true p h = refl
      by false p h = omega arith

  pub turn_in : turn_of s < length sc.lines
  turn_in = by s.forward s.position (in_range sc.lines (block sc ok) _ s.position F.high F.within).1
    where
      by : (fw : Bool) (p : ℕ) → p < length sc.lines → cond fw p (p - 1) < length sc.lines
      by true p h = h
      by false p h = omega arith
