mod OpeningLemmas
