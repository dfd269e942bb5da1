mod TwoLaws
