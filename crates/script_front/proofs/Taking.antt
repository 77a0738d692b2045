-- Texts written one after another.
use Rattle.std.proofs.Common.{◌≡◌, ℕ, ◌≤◌, List, [], ◌++◌, Option, take, drop, length, length-drop, take_all, ◌-◌, refl, sym, ◌∙◌, ap, append_assoc, append-nil, subst}
use Rattle.std.proofs.lemmas.List.{take-append-drop}
use Rattle.std.proofs.Math.Seq.{take-append_seam}
use Rattle.mp_base.specs.Outside.{Taken}
use Rattle.script_front.specs.Writing.{Writes, WritesFront}

pub taken_none : (sink : Option (List ℕ)) → Taken sink sink []
taken_none sink = record { by = λ now e. (now, e, sym (append-nil now)) }

pub taken_more : (old mid new : Option (List ℕ)) (first second : List ℕ) → Taken old mid first → Taken mid new second → Taken old new (first ++ second)
taken_more old mid new first second a b = record {
  by = λ now e.
      let later = b.by now e in
      let earlier = a.by later.0 later.1 in
      (earlier.0, earlier.1, later.2 ∙ ap (λ before. before ++ second) earlier.2 ∙ append_assoc earlier.0 first second);
}

pub writes_none : (sink : Option (List ℕ)) (text : List ℕ) → Writes sink sink text text
writes_none sink text = record { done = []; split = refl; taken = taken_none sink }

pub writes_more : {old mid new : Option (List ℕ)} {text rest : List ℕ} (n k : ℕ) → length rest - n ≤ k → Writes old mid text rest → Taken mid new (take n rest)
    → Writes old new text (take k (drop n rest))
writes_more {old} {mid} {new} {text} {rest} n k enough w t = rw (take_all k (drop n rest) (rw length-drop enough)) (record {
  done = w.done ++ take n rest;
  split = append_assoc w.done (take n rest) (drop n rest) ∙ ap (λ more. w.done ++ more) (take-append-drop n rest) ∙ w.split;
  taken = taken_more old mid new w.done (take n rest) w.taken t;
})

pub writes_front : {old mid new : Option (List ℕ)} {text : List ℕ} (rest : List ℕ) → Writes old mid text rest → Taken mid new [] → WritesFront old new text
writes_front {old} {mid} {new} {text} rest w t = record {
  kept = length w.done;
  taken = subst (Taken old new) (append-nil w.done ∙ sym (ap (take (length w.done)) (sym w.split) ∙ take-append_seam w.done rest))
      (taken_more old mid new w.done [] w.taken t);
}

pub writes_all : {old new : Option (List ℕ)} {text : List ℕ} (rest : List ℕ) → rest ≡ [] → Writes old new text rest → Taken old new text
writes_all {old} {new} {text} rest is w = subst (Taken old new) (sym (append-nil w.done) ∙ ap (λ more. w.done ++ more) (sym is) ∙ w.split) w.taken
