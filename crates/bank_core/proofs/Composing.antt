-- Calls one after another.
use mathlib.Core.Path.{fun_ext}
use Rattle.std.proofs.Common.{◌≡◌, ◌≢◌, ℕ, ◌≤◌, List, [], ◌∷◌, ◌++◌, Option, Some, None, Result, Ok, Err, OnOk, OnErr, refl, sym, ◌∙◌, ap, arith, append_assoc, append-nil, subst, Bool, false}
use Rattle.std.proofs.lemmas.Option.{none-some}
use Rattle.bank_core.specs.declared.bank.Fault.{Fault}
use Rattle.mp_base.specs.Outside.{Rose}
use Rattle.bank_core.specs.Disk.{Sector, Sectors, Call, Noted, run, replay, AllAnswer}
use Rattle.bank_core.specs.Story.{Story, Continues, Tells, now, goes_on, fault_in}
use Rattle.bank_core.specs.Calls.{Made, AllCaused, IsCaused, device_of, fault_of}

-- calls on a sector, and more calls
pub replay_more : (first second : List Noted) (d s : ℕ) (x : Sector) → replay (first ++ second) d s x ≡ replay second d s (replay first d s x)
replay_more [] second d s x = refl
replay_more (noted ∷ first) second d s x = replay_more first second d s _

pub run_more : (first second : List Noted) (sectors : Sectors) → run (first ++ second) sectors ≡ run second (run first sectors)
run_more first second sectors = fun_ext (λ d. fun_ext (λ s. replay_more first second d s (sectors d s)))

pub answer_more : (first second : List Noted) (sectors : Sectors) → AllAnswer sectors first → AllAnswer (run first sectors) second → AllAnswer sectors (first ++ second)
answer_more [] second sectors a b = b
answer_more (noted ∷ first) second sectors a b = (a.0, answer_more first second _ a.1 b)

same_some : (a b : Story) → Some a ≡ Some b → a ≡ b
same_some a b e = cc

same_story : (story : Story) → story ≡ goes_on story []
same_story story = ap (λ calls. record { start = story.start; calls = calls }) (sym (append-nil story.calls))

goes_on_more : (story : Story) (first second : List Noted) → goes_on (goes_on story first) second ≡ goes_on story (first ++ second)
goes_on_more story first second = ap (λ calls. record { start = story.start; calls = calls }) (append_assoc story.calls first second)

-- the sectors behind the first calls are those from which the second go on
answers_at : (later begun : Story) (first second : List Noted) → later ≡ goes_on begun first
    → AllAnswer (now later) second → AllAnswer (run first (now begun)) second
answers_at later begun first second e a =
    subst (λ sectors. AllAnswer sectors second) (ap now e ∙ run_more begun.calls first begun.start) a

-- counts that are equal may be named otherwise
caused_from : (made : List Noted) (f f' g : ℕ → ℕ) → ((d : ℕ) → f d ≡ f' d) → AllCaused made f g → AllCaused made f' g
caused_from made f f' g same c = subst (λ k. AllCaused made k g) (fun_ext same) c

pub caused_more : (first second : List Noted) (f g h : ℕ → ℕ) → AllCaused first f g → AllCaused second g h → AllCaused (first ++ second) f h
caused_more [] second f g h a b = caused_from second g f h a b
caused_more (noted ∷ first) second f g h a b = (a.0, a.1, caused_more first second a.0 g h a.2 b)

-- no count fell
pub caused_counts : (made : List Noted) (f g : ℕ → ℕ) → AllCaused made f g → (d : ℕ) → f d ≤ g d
caused_counts [] f g c d = let same = c d in omega arith
caused_counts (noted ∷ made) f g c d = let x = c.1.counts d in let y = caused_counts made c.0 g c.2 d in omega arith

-- the counts between calls
pub caused_split : (first second : List Noted) (f h : ℕ → ℕ) → AllCaused (first ++ second) f h → (g : ℕ → ℕ) × AllCaused first f g × AllCaused second g h
caused_split [] second f h c = (f, (λ d. refl), c)
caused_split (noted ∷ first) second f h c =
    let r = caused_split first second c.0 h c.2 in (r.0, (c.0, c.1, r.1), r.2)

-- No call was made.
pub made_none : (told : Option Story) (faults : ℕ → ℕ) → Made told told faults faults []
made_none told faults = record {
  caused = λ d. refl;
  told = λ story' e. record { story = story'; before = e; after = same_story story'; answers = tt };
}

continues_more : (old mid : Option Story) (first second : List Noted) (story' : Story)
    → ((between : Story) → mid ≡ Some between → Continues old first between) → Continues mid second story' → Continues old (first ++ second) story'
continues_more old mid first second story' earlier later =
    let begun = earlier later.story later.before in
    record {
      story = begun.story;
      before = begun.before;
      after = later.after ∙ ap (λ s. goes_on s second) begun.after ∙ goes_on_more begun.story first second;
      answers = answer_more first second (now begun.story) begun.answers (answers_at later.story begun.story first second begun.after later.answers);
    }

-- Some calls were made, and then more.
pub made_more : (old mid new : Option Story) (f g h : ℕ → ℕ) (first second : List Noted)
    → Made old mid f g first → Made mid new g h second → Made old new f h (first ++ second)
made_more old mid new f g h first second a b = record {
  caused = caused_more first second f g h a.caused b.caused;
  told = λ story' e. continues_more old mid first second story' a.told (b.told story' e);
}

-- The counts and the story that calls leave may be named otherwise.
pub made_from : (old old' new : Option Story) (f f' g : ℕ → ℕ) (made : List Noted)
    → old' ≡ old → ((d : ℕ) → f d ≡ f' d) → Made old new f g made → Made old' new f' g made
made_from old old' new f f' g made e same m = record {
  caused = caused_from made f f' g same m.caused;
  told = λ story' is. rw e (m.told story' is);
}

-- One call was made, with some damage.
pub record MadeOne (old new : Option Story) (before after : ℕ → ℕ) (call : Call) : Type 0 where
  pub damage : ℕ → ℕ → Bool
  pub made : Made old new before after (record { call = call; damage = damage } ∷ [])

no_damage : ℕ → ℕ → Bool
no_damage d s = false

one_caused : (noted : Noted) (f g : ℕ → ℕ) → IsCaused noted.call f g → AllCaused (noted ∷ []) f g
one_caused noted f g c = (g, c, λ d. refl)

-- from what the bank tells: nothing, or this story
one_made_at : (old new : Option Story) (f g : ℕ → ℕ) (call : Call) → IsCaused call f g → Tells old new call
    → (told : Option Story) → new ≡ told → MadeOne old new f g call
one_made_at old new f g call c tells None e = record {
  damage = no_damage;
  made = record {
    caused = one_caused (record { call = call; damage = no_damage }) f g c;
    told = λ story' told. absurd (none-some story' (sym e ∙ told));
  };
}
one_made_at old new f g call c tells (Some story) e = record {
  damage = (tells.by story e).0;
  made = record {
    caused = one_caused (record { call = call; damage = (tells.by story e).0 }) f g c;
    told = λ story' told. subst (Continues old (record { call = call; damage = (tells.by story e).0 } ∷ []))
        (same_some story story' (sym e ∙ told)) (tells.by story e).1;
  };
}

pub one_made : (old new : Option Story) (f g : ℕ → ℕ) (call : Call) → IsCaused call f g → Tells old new call → MadeOne old new f g call
one_made old new f g call c tells = one_made_at old new f g call c tells new refl

-- what a bank's clauses on counts say of a call
pub call_caused : {A : Type 0} (call : Call) (r : Result A Fault) (f g : ℕ → ℕ) → fault_of call ≡ fault_in r
    → ((d : ℕ) → f d ≤ g d) → OnErr r (Rose (f (device_of call)) (g (device_of call))) → OnOk r ((d : ℕ) → g d ≡ f d)
    → ((d : ℕ) → d ≢ device_of call → g d ≡ f d) → IsCaused call f g
call_caused call (Ok x) f g e counts cause still others =
    record { counts = counts; cause = λ fault is. absurd (none-some fault (sym e ∙ is)); still = λ _. still; others = others }
call_caused call (Err fault) f g e counts cause still others =
    record { counts = counts; cause = λ _ _. cause; still = λ is. absurd (none-some fault (sym is ∙ e)); others = others }

-- a call that answered Ok moved no count
pub ok_caused : (call : Call) (f g : ℕ → ℕ) → fault_of call ≡ None → ((d : ℕ) → g d ≡ f d) → IsCaused call f g
ok_caused call f g e still = record {
  counts = λ d. let same = still d in omega arith;
  cause = λ fault is. absurd (none-some fault (sym e ∙ is));
  still = λ _. still;
  others = λ d _. still d;
}

-- a call that failed moved the count of its device alone
pub failed_caused : (call : Call) (fault : Fault) (f g : ℕ → ℕ) → fault_of call ≡ Some fault → ((d : ℕ) → f d ≤ g d)
    → Rose (f (device_of call)) (g (device_of call)) → ((d : ℕ) → d ≢ device_of call → g d ≡ f d) → IsCaused call f g
failed_caused call fault f g e counts cause others = call_caused {A = Unit {0}} call (Err fault) f g e counts cause tt others
